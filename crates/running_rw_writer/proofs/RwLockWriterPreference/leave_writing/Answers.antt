use Rattle.running_rw_writer.proofs.AnswerNames.{writers_out, may_leave_writing, leaves_writing}
use Rattle.running_rw_writer.proofs.RwLockWriterPreference.leave_writing.Goals as goal

pub store-requires-clause-may : goal.store-requires-clause-may
store-requires-clause-may g c = may_leave_writing _ c.requires.has

pub returns-clause-released : goal.returns-clause-released
returns-clause-released g c = writers_out _ c.args.turn.pass.now c.store.result.pass.now (may_leave_writing _ c.requires.has) c.store.ensures.same c.store.ensures.stepped.acted.share c.store.ensures.stepped.acted.told c.requires.on

pub returns-clause-played : goal.returns-clause-played
returns-clause-played g c = leaves_writing _ _ _ c.store.ensures.stepped.went
