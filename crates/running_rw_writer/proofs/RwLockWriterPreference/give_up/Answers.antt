use Rattle.running_rw_writer.proofs.AnswerNames.{Call, After, Leaver, RwWriterPlace, Pass, parties_of, sym, subst, inr, MatchBool-at_true, PlayedRwWriter, WriteGoes}
use Rattle.running_rw_writer.proofs.RwLockWriterPreference.give_up.Goals as goal

pub returns-then-taken-clause-played : goal.returns-then-taken-clause-played
returns-then-taken-clause-played g c = λ done at. inr ((subst (λ (q : Pass PlayedRwWriter). WriteGoes (After.At (RwWriterPlace.WakeOne Leaver.GivenUp)) done (parties_of q)) (sym c.wake_both.ensures.still) (c.count_up-counted.ensures.counted Call.WriteLock Leaver.GivenUp done (MatchBool-at_true _ _ c.if-taken.true (c.take_mark_away-taken.ensures.played done at)))), c.wake_both.ensures.woke)
