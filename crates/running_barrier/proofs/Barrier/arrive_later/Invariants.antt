use Rattle.running_barrier.proofs.Names.{sights_of, parties_of, count_of, ◌≡◌, ◌<◌, HasLooked, OnceLooked, waiters_of, HasStayed}
use Rattle.running_barrier.proofs.Barrier.arrive_later.Given as goal

-- where one had room, so has each that is found later
abbrev pub invariant-loop : goal.invariant-loop
invariant-loop g l = record {
  same_borrow : l.missed.pass.ghost_name ≡ l.fn.turn.pass.ghost_name;
  stayed : HasStayed l.fn.turn.pass.now l.missed.pass.now;
  room : count_of l.seen < waiters_of l.fn.self;
  last : (sights_of l.missed.pass.now).last ≡ l.seen;
  looked : OnceLooked (waiters_of l.fn.self) l.fn.found (parties_of l.fn.turn.pass.now) (λ done. HasLooked (waiters_of l.fn.self) l.seen done (parties_of l.missed.pass.now));
}
