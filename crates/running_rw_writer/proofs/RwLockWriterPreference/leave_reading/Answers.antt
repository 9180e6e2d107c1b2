use Rattle.running_rw_writer.proofs.AnswerNames.{readers_out, may_leave_reading, leaves_reading}
use Rattle.running_rw_writer.proofs.RwLockWriterPreference.leave_reading.Goals as goal

pub subtract-requires-clause-may : goal.subtract-requires-clause-may
subtract-requires-clause-may g c = may_leave_reading _ c.requires.has

pub returns-clause-released : goal.returns-clause-released
returns-clause-released g c = (readers_out _ _ c.args.turn.pass.now c.subtract.result.1.pass.now (may_leave_reading _ c.requires.has) c.subtract.ensures.same c.subtract.ensures.stepped.acted.share c.subtract.ensures.stepped.acted.told c.requires.on).0

pub returns-clause-saw : goal.returns-clause-saw
returns-clause-saw g c = (readers_out _ _ c.args.turn.pass.now c.subtract.result.1.pass.now (may_leave_reading _ c.requires.has) c.subtract.ensures.same c.subtract.ensures.stepped.acted.share c.subtract.ensures.stepped.acted.told c.requires.on).1

pub returns-clause-played : goal.returns-clause-played
returns-clause-played g c = leaves_reading _ _ _ c.subtract.ensures.stepped.went
