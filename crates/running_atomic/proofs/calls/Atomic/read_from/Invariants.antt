use Rattle.running_atomic.proofs.Names.{Call, look_at, Slot, parties_of, key_of, ◌≡◌, List, None, IsStill, IsNext}
use Rattle.running_atomic.proofs.calls.Atomic.read_from.Given as goal

abbrev pub invariant-loop : goal.invariant-loop
invariant-loop g l = record {
  same_borrow : l.next.pass.ghost_name ≡ l.fn.turn.pass.ghost_name;
  still : IsStill l.fn.turn.pass.now l.next.pass.now;
  at : (done : List (Slot g.row.T.Denot)) → IsNext g.T.AtomicInteger.arithmetic (key_of l.self.stage) Call.Load (look_at l.fn.seen) None done (parties_of l.fn.turn.pass.now) → IsNext g.T.AtomicInteger.arithmetic (key_of l.self.stage) Call.Load (look_at l.last) None done (parties_of l.next.pass.now);
}
