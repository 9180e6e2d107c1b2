use Rattle.running_spin_lock.proofs.Names.{Slot, ◌≡◌, ℕ, [], List, OnlySees, IsSpinning}
use Rattle.running_spin_lock.proofs.spin_lock.SpinLock.spin.Given as goal

abbrev pub invariant-loop : goal.invariant-loop
invariant-loop g l = record {
  same : (l.next.seat.table_id ≡ l.fn.turn.seat.table_id) × (l.next.seat.id ≡ l.fn.turn.seat.id);
  no_slot : l.next.seat.me.1 ≡ [];
  saw : OnlySees l.fn.turn.seat.me.0 l.next.seat.me.0;
  at : (done : List (Slot ℕ)) → IsSpinning g.C.Called.call done l.fn.turn.seat.me.0.tally.parties → IsSpinning g.C.Called.call done l.next.seat.me.0.tally.parties;
}
