use Rattle.running_semaphore.proofs.Names.{Wanting, Slot, List, ℕ, parties_of, HasOnlySeen, ◌≡◌, HasLookedThere, initial_of, SemPass, SawLast}
use Rattle.running_semaphore.proofs.Semaphore.take_from.Given as goal

abbrev pub invariant-loop : goal.invariant-loop
invariant-loop g l = record {
  same_borrow : l.next.pass.ghost_name ≡ l.fn.turn.pass.ghost_name;
  stayed : HasOnlySeen l.fn.turn.pass.now l.next.pass.now;
  saw : (p : SemPass) → SawLast l.fn.seen p l.fn.turn.pass.now → SawLast l.last p l.next.pass.now;
  at : (wanting : Wanting) (done : List (Slot ℕ)) → HasLookedThere (initial_of l.self) wanting l.fn.seen done (parties_of l.fn.turn.pass.now) → HasLookedThere (initial_of l.self) wanting l.last done (parties_of l.next.pass.now);
}
