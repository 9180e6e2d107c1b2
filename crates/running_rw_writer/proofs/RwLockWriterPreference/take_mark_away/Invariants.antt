use Rattle.running_rw_writer.proofs.AnswerNames.{unmarks_or_leaves, parties_of, ◌≡◌, OnceWriting, WriteGoes, HasTried, HasJustSeen, MayGiveUp}
use Rattle.running_rw_writer.proofs.RwLockWriterPreference.take_mark_away.Given as goal

abbrev pub invariant-loop : goal.invariant-loop
invariant-loop g l = record {
  same_borrow : l.next.pass.ghost_name ≡ l.fn.turn.pass.ghost_name;
  tried : HasTried 0 l.fn.turn.pass.now l.next.pass.now;
  just : HasJustSeen l.last l.next.pass.now;
  cause : MayGiveUp l.next.pass.now;
  at : OnceWriting (unmarks_or_leaves l.fn.seen) (parties_of l.fn.turn.pass.now) (λ done. WriteGoes (unmarks_or_leaves l.last) done (parties_of l.next.pass.now));
}
