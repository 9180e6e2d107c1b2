use Rattle.running_atomic.specs.AtomicShown.{HasStayed}
use Rattle.test_spinning.proofs.tests.atomic.stride_often.Given as goal

abbrev pub invariant-loop : goal.invariant-loop
invariant-loop g l = HasStayed l.fn.pass l.pass
