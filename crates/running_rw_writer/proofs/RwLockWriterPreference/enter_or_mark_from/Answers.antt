use Rattle.running_rw_writer.proofs.AnswerNames.{spun}
use Rattle.running_rw_writer.proofs.RwLockWriterPreference.enter_or_mark_from.Goals as goal

pub mark_or_enter-requires-clause-at : goal.mark_or_enter-requires-clause-at
mark_or_enter-requires-clause-at g c = let w = c.requires.at in (w.0, w.1, c.in-Err.ensures.goes_on (spun w.0) w.1 w.2)

pub returns-in-Ok-clause-played : goal.returns-in-Ok-clause-played
returns-in-Ok-clause-played g c = λ n done at. c.in-Ok.ensures.granted (spun n) done at
