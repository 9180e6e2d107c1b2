use Rattle.running_rw_reader.proofs.RwReaderKeeps.{readers_out}
use Rattle.running_rw_reader.proofs.RwReaderPlays.{may_leave_reading, leaves_reading}
use Rattle.running_rw_reader.proofs.RwLockReaderPreference.leave_reading.Goals as goal

pub subtract-next-requires-clause-may : goal.subtract-next-requires-clause-may
subtract-next-requires-clause-may g c = may_leave_reading _ c.requires.has

pub subtract-next-requires-clause-needs : goal.subtract-next-requires-clause-needs
subtract-next-requires-clause-needs g c = λ name found named. c.requires.on

pub returns-clause-released : goal.returns-clause-released
returns-clause-released g c = readers_out _ _ c.args.turn.pass.now c.subtract-next.result.1.pass.now (may_leave_reading _ c.requires.has) c.subtract-next.ensures.same c.subtract-next.ensures.stepped.acted.share c.subtract-next.ensures.stepped.acted.told c.requires.on

pub returns-clause-played : goal.returns-clause-played
returns-clause-played g c = leaves_reading _ _ _ c.subtract-next.ensures.stepped.went
