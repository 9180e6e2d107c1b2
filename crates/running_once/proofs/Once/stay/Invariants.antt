use Rattle.running_once.proofs.Names.{parties_of, ◌≡◌, ComesToStay, WhereStays, HasOnlyWaited}
use Rattle.running_once.proofs.Once.stay.Given as goal

abbrev pub invariant-loop : goal.invariant-loop
invariant-loop g l = record {
  same_borrow : l.next.pass.ghost_name ≡ l.fn.turn.pass.ghost_name;
  waited : HasOnlyWaited l.fn.turn.pass.now l.next.pass.now;
  stays : WhereStays (parties_of l.fn.turn.pass.now) (λ done. ComesToStay done (parties_of l.next.pass.now));
}
