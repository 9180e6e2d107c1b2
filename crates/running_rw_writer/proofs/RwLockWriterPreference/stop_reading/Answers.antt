use Rattle.running_rw_writer.proofs.AnswerNames.{Call, HoldKind, Leaver, View, Pass, sights_of, parties_of, MarkedHolds, ◌∙◌, sym, ap, subst, PlayedRwWriter, Unlocks, unlocked, unlocking, since_begun, last_reader, wakes_writer, other_is_over}
use Rattle.running_rw_writer.proofs.RwLockWriterPreference.stop_reading.Goals as goal

pub end-pass-requires-clause-over : goal.end-pass-requires-clause-over
end-pass-requires-clause-over g c = other_is_over _ _ _ (sym c.is_last_reader.ensures ∙ c.if-is_last_reader.false) c.requires.has (since_begun HoldKind.Read _ _ _ _ c.begin_held-begun.ensures.still c.leave_reading-found.ensures.played)

pub count_up-counted-requires-clause-at : goal.count_up-counted-requires-clause-at
count_up-counted-requires-clause-at g c = (
  Leaver.Reader,
  unlocking HoldKind.Read _ _ _ c.requires.has
      (last_reader _ _ _ (sym c.is_last_reader.ensures ∙ c.if-is_last_reader.true) (since_begun HoldKind.Read _ _ _ _ c.begin_held-begun.ensures.still c.leave_reading-found.ensures.played)),
)

pub wake_one-pass-requires-clause-wakes : goal.wake_one-pass-requires-clause-wakes
wake_one-pass-requires-clause-wakes g c = unlocking HoldKind.Read _ _ _ c.requires.has (λ done holding. c.count_up-counted.ensures.counted Call.Unlock Leaver.Reader done
    (last_reader _ _ _ (sym c.is_last_reader.ensures ∙ c.if-is_last_reader.true) (since_begun HoldKind.Read _ _ _ _ c.begin_held-begun.ensures.still c.leave_reading-found.ensures.played) done holding))

pub returns-then-is_last_reader-clause-played : goal.returns-then-is_last_reader-clause-played
returns-then-is_last_reader-clause-played g c = subst (λ (q : Pass PlayedRwWriter). Unlocks HoldKind.Read (unlocked HoldKind.Read (sights_of q).last) (parties_of c.args.pass.now) (parties_of q)) (sym (c.pass-1.given.1 (sym c.begin_held-begun.ensures.same_borrow ∙ sym c.leave_reading-found.ensures.same_borrow ∙ sym c.count_up-counted.ensures.same_borrow ∙ sym c.wake_one-pass.ensures.same_borrow) ∙ c.wake_one-pass.ensures.still)) (wakes_writer _ _ _ _ _ (sym c.is_last_reader.ensures ∙ c.if-is_last_reader.true)
    (ap (λ (v : View MarkedHolds). v.sights.last) c.count_up-counted.ensures.unchanged ∙ c.leave_reading-found.ensures.saw)
    (last_reader _ _ _ (sym c.is_last_reader.ensures ∙ c.if-is_last_reader.true) (since_begun HoldKind.Read _ _ _ _ c.begin_held-begun.ensures.still c.leave_reading-found.ensures.played)) (c.count_up-counted.ensures.counted Call.Unlock Leaver.Reader))
