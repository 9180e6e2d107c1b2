use Rattle.running_atomic.specs.AtomicShown.{HasStayed}
use Rattle.test_spinning.proofs.tests.atomic.store_numbers.Given as goal

abbrev pub invariant-loop-number : goal.invariant-loop-number
invariant-loop-number g l = HasStayed l.fn.pass l.pass
