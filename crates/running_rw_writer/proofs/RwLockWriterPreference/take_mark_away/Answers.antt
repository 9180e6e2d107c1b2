use Rattle.running_rw_writer.proofs.AnswerNames.{leaves, unmarks_none}
use Rattle.running_rw_writer.proofs.RwLockWriterPreference.take_mark_away.Goals as goal

pub returns-in_default-clause-played : goal.returns-in_default-clause-played
returns-in_default-clause-played g c = λ done at. leaves _ done _ (unmarks_none _ _ c.unmarks.ensures.marked c.in_default.is) (c.loop.invariant.at done at)
