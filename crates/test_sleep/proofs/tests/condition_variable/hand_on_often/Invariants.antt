use Rattle.running_mutex.specs.MutexShown.{HasStayed as HasLockedAtMost}
use Rattle.running_condvar.specs.CondShown.{HasStayed}
use Rattle.test_sleep.proofs.tests.condition_variable.hand_on_often.Given as goal

abbrev pub invariant-loop : goal.invariant-loop
invariant-loop g l = HasStayed l.fn.side.waiting l.side.waiting × HasStayed l.fn.side.notifying l.side.notifying × HasLockedAtMost l.fn.side.locking l.side.locking
