use Rattle.std.proofs.Common.{◌≡◌, ◌+◌, length}
use Rattle.running_sharing.proofs.handle.Handle.split_into.Given as goal

abbrev pub invariant-loop : goal.invariant-loop
invariant-loop g l = length l.handles.items + 1 ≡ l.counter
