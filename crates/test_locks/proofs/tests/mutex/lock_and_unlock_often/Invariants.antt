use Rattle.running_mutex.specs.MutexShown.{HasStayed}
use Rattle.test_locks.proofs.tests.mutex.lock_and_unlock_often.Given as goal

abbrev pub invariant-loop : goal.invariant-loop
invariant-loop g l = HasStayed l.fn.pass l.pass
