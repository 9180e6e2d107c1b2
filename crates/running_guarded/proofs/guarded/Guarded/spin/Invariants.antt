use Rattle.running_guarded.proofs.Names.{Call, MutexPlace, mutex_model, spun, IsRefused, OnceRefused, ◌≡◌, [], SeesLockedOften}
use Rattle.running_guarded.proofs.guarded.Guarded.spin.Given as goal

abbrev pub invariant-loop-tries : goal.invariant-loop-tries
invariant-loop-tries g l = record {
  same : (l.next.seat.table_id ≡ l.fn.turn.seat.table_id) × (l.next.seat.id ≡ l.fn.turn.seat.id);
  no_slot : l.next.seat.me.1 ≡ [];
  saw : SeesLockedOften l.tries l.fn.turn.seat.me.0 l.next.seat.me.0;
  at : OnceRefused mutex_model Call.Lock MutexPlace.Lock 1 l.fn.turn.seat.me.0.tally.parties (λ done. IsRefused mutex_model Call.Lock MutexPlace.Lock (spun l.tries) 1 done l.next.seat.me.0.tally.parties);
}
