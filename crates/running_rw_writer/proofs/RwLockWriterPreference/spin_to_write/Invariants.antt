use Rattle.running_rw_writer.proofs.AnswerNames.{spins, parties_of, spun, ◌≡◌, OnceWriting, WriteGoes, HasTried}
use Rattle.running_rw_writer.proofs.RwLockWriterPreference.spin_to_write.Given as goal

abbrev pub invariant-loop-tries : goal.invariant-loop-tries
invariant-loop-tries g l = record {
  same_borrow : l.next.pass.ghost_name ≡ l.fn.turn.pass.ghost_name;
  tried : HasTried l.tries l.fn.turn.pass.now l.next.pass.now;
  at : OnceWriting (spins (spun 0)) (parties_of l.fn.turn.pass.now) (λ done. WriteGoes (spins (spun l.tries)) done (parties_of l.next.pass.now));
}
