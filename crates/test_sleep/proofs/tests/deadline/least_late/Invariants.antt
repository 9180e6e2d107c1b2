use Rattle.running_mutex.specs.MutexShown.{HasStayed}
use Rattle.test_sleep.proofs.tests.deadline.least_late.Given as goal

abbrev pub invariant-loop : goal.invariant-loop
invariant-loop g l = HasStayed l.fn.pass l.pass
