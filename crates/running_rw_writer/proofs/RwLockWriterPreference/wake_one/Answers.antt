use Rattle.running_rw_writer.proofs.AnswerNames.{After, Leaver, RwWriterPlace, Pass, parties_of, sym, subst, SomeCallGoes, PlayedRwWriter, reader_is_over}
use Rattle.running_rw_writer.proofs.RwLockWriterPreference.wake_one.Goals as goal

pub end_aside-requires-clause-over : goal.end_aside-requires-clause-over
end_aside-requires-clause-over g c = reader_is_over _ (subst (λ (p : Pass PlayedRwWriter). SomeCallGoes (After.At (RwWriterPlace.WakeOne Leaver.Reader)) (parties_of p)) (sym c.wake-woken.ensures.still) c.requires.wakes)
