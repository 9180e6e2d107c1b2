use Rattle.running_barrier.proofs.Names.{sights_of, parties_of, counted, epoch_of, ◌≡◌, ◌+◌, ◌%◌, ◌^◌, Looks, OnceToStay, HasAll, waiters_of, reached_of, HasStayed}
use Rattle.running_barrier.proofs.Barrier.spin.Given as goal

abbrev pub invariant-loop : goal.invariant-loop
invariant-loop g l = record {
  same_borrow : l.next.pass.ghost_name ≡ l.fn.turn.pass.ghost_name;
  stayed : HasStayed l.fn.turn.pass.now l.next.pass.now;
  looked : (sights_of l.next.pass.now).count ≡ (sights_of l.fn.turn.pass.now).count + 1 + l.counter;
  epoch : epoch_of l.seen ≡ reached_of l.next.pass.now % 2 ^ 32;
  all : HasAll (waiters_of l.fn.self) (counted l.next.pass.now);
  looks : OnceToStay (waiters_of l.fn.self) l.own_epoch (parties_of l.fn.turn.pass.now) (λ done. Looks (waiters_of l.fn.self) l.own_epoch l.counter l.seen done (parties_of l.next.pass.now));
}
