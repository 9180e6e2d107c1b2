use Rattle.std.proofs.Common.{◌≤◌}
use Rattle.running_lazy_lock.specs.LazyShown.{IsLazyPass}
use Rattle.bench_lines.proofs.lines.lazy_lock.force_often.Given as goal

abbrev pub invariant-loop : goal.invariant-loop
invariant-loop g l = record { own : IsLazyPass l.lazy l.pass; counted : l.count ≤ l.counter }
