use Rattle.running_once.proofs.Names.{eqb-false}
use Rattle.running_once.proofs.OnceKeeps.{waits, begins}
use Rattle.running_once.proofs.OncePlays.{may_begin}
use Rattle.running_once.proofs.Once.begin.Goals as goal

pub returns-clause-begun : goal.returns-clause-begun
returns-clause-begun g c = begins _ _ _ c.args.turn.pass.now c.exchange-found.result.1.pass.now (may_begin c.requires.comes.0 _ _ c.running.ensures c.requires.comes.1) c.exchange-found.ensures.same c.exchange-found.ensures.stepped.acted.told c.exchange-found.ensures.stepped.acted.share

pub returns-clause-refused : goal.returns-clause-refused
returns-clause-refused g c = λ miss. (waits _ _ _ c.args.turn.pass.now c.exchange-found.result.1.pass.now (may_begin c.requires.comes.0 _ _ c.running.ensures c.requires.comes.1) c.exchange-found.ensures.same c.exchange-found.ensures.stepped.acted.told (eqb-false _ 0 miss)).1
