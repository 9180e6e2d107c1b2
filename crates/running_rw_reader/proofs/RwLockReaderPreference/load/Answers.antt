use Rattle.running_rw_reader.proofs.RwReaderKeeps.{loads, looks_alone}
use Rattle.running_rw_reader.proofs.RwLockReaderPreference.load.Goals as goal

pub returns-clause-saw : goal.returns-clause-saw
returns-clause-saw g c = loads _ _ c.args.turn.pass.now c.load.result.1.pass.now c.requires.may c.load.ensures.same c.load.ensures.stepped.acted.told

pub returns-clause-exact : goal.returns-clause-exact
returns-clause-exact g c = looks_alone _ _ c.args.turn.pass.now c.requires.may c.load.ensures.stepped.acted.share
