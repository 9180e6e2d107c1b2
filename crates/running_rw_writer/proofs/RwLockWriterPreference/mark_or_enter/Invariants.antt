use Rattle.running_rw_writer.proofs.Names.{write_refused}
use Rattle.running_rw_writer.proofs.AnswerNames.{parties_of, spun, ◌≡◌, ℕ, OnceWriting, WriteGoes, HasTried, HasJustSeen}
use Rattle.running_rw_writer.proofs.RwLockWriterPreference.mark_or_enter.Given as goal

abbrev pub invariant-loop : goal.invariant-loop
invariant-loop g l = record {
  same_borrow : l.next.pass.ghost_name ≡ l.fn.turn.pass.ghost_name;
  tried : HasTried 0 l.fn.turn.pass.now l.next.pass.now;
  just : HasJustSeen l.last l.next.pass.now;
  at : (n : ℕ) → OnceWriting (write_refused (spun n) l.fn.seen) (parties_of l.fn.turn.pass.now) (λ done. WriteGoes (write_refused (spun n) l.last) done (parties_of l.next.pass.now));
}
