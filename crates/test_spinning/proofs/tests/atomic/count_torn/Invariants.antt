use Rattle.std.specs.Prelude.{◌≤◌}
use Rattle.running_atomic.specs.AtomicShown.{HasStayed}
use Rattle.test_spinning.proofs.tests.atomic.count_torn.Given as goal

abbrev pub invariant-loop : goal.invariant-loop
invariant-loop g l = HasStayed l.fn.pass l.pass × (l.torn ≤ l.counter)
