use Rattle.running_rw_writer.proofs.AnswerNames.{Call, Answer, HoldKind, Pass, parties_of, rw_writer_model, Some, sym, subst, is_over, PlayedRwWriter, given_up, WriteIsGranted}
use Rattle.running_rw_writer.proofs.RwLockWriterPreference.enter_or_give_up.Goals as goal

pub enter_if_free-requires-clause-at : goal.enter_if_free-requires-clause-at
enter_if_free-requires-clause-at g c = let w = c.requires.at in (given_up, w.0, c.look_to_write-seen.ensures.looked given_up w.0 w.1)

pub end-requires-clause-over : goal.end-requires-clause-over
end-requires-clause-over g c = let w = c.requires.at in is_over rw_writer_model Call.WriteLock Answer.Success (Some HoldKind.Write) w.0 _ (c.in-Ok.ensures.granted given_up w.0 (c.look_to_write-seen.ensures.looked given_up w.0 w.1))

pub give_up-requires-clause-at : goal.give_up-requires-clause-at
give_up-requires-clause-at g c = let w = c.requires.at in (w.0, c.in-Err.ensures.goes_on given_up w.0 (c.look_to_write-seen.ensures.looked given_up w.0 w.1))

pub returns-in-Ok-clause-played : goal.returns-in-Ok-clause-played
returns-in-Ok-clause-played g c = λ done comes. subst (λ (q : Pass PlayedRwWriter). WriteIsGranted done (parties_of q)) (sym c.end.ensures.still) (c.in-Ok.ensures.granted given_up done (c.look_to_write-seen.ensures.looked given_up done comes))

pub returns-in-Err-clause-played : goal.returns-in-Err-clause-played
returns-in-Err-clause-played g c = λ done comes. c.give_up.ensures.played done (c.in-Err.ensures.goes_on given_up done (c.look_to_write-seen.ensures.looked given_up done comes))
