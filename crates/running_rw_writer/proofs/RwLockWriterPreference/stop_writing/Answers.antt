use Rattle.running_rw_writer.proofs.AnswerNames.{Call, HoldKind, After, Leaver, RwWriterPlace, parties_of, refl, unlocking, since_begun}
use Rattle.running_rw_writer.proofs.RwLockWriterPreference.stop_writing.Goals as goal

pub count_up-last-requires-clause-at : goal.count_up-last-requires-clause-at
count_up-last-requires-clause-at g c = (Leaver.Writer, unlocking HoldKind.Write _ _ _ c.requires.has (since_begun HoldKind.Write (After.At (RwWriterPlace.Count Leaver.Writer)) _ _ (parties_of c.leave_writing-left.result.pass.now) c.begin_held-begun.ensures.still c.leave_writing-left.ensures.played))

pub wake_both-pass-requires-clause-wakes : goal.wake_both-pass-requires-clause-wakes
wake_both-pass-requires-clause-wakes g c = record {
  who = Leaver.Writer;
  both = refl;
  wakes = unlocking HoldKind.Write _ _ _ c.requires.has (λ done holding. c.count_up-last.ensures.counted Call.Unlock Leaver.Writer done
      (since_begun HoldKind.Write (After.At (RwWriterPlace.Count Leaver.Writer)) _ _ (parties_of c.leave_writing-left.result.pass.now) c.begin_held-begun.ensures.still c.leave_writing-left.ensures.played done holding));
}
