use Rattle.running_atomic.proofs.Names.{AtomicPlace, Slot, parties_of, key_of, ◌≡◌, List, None, IsStill, IsNext}
use Rattle.running_atomic.proofs.calls.Atomic.write_later.Given as goal

abbrev pub invariant-loop : goal.invariant-loop
invariant-loop g l = record {
  same_borrow : l.next.pass.ghost_name ≡ l.fn.turn.pass.ghost_name;
  still : IsStill l.fn.turn.pass.now l.next.pass.now;
  at : (done : List (Slot g.row.T.Denot)) → IsNext g.T.AtomicInteger.arithmetic (key_of l.self.stage) g.L.Called.call (AtomicPlace.Take g.L.Called.call) None done (parties_of l.fn.turn.pass.now) → IsNext g.T.AtomicInteger.arithmetic (key_of l.self.stage) g.L.Called.call (AtomicPlace.Take g.L.Called.call) None done (parties_of l.next.pass.now);
}
