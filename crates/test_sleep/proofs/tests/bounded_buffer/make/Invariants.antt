use Rattle.std.proofs.Common.{◌≡◌}
use Rattle.running_mutex.specs.MutexShown.{pass_of, borrow_of, HasStayed as HasLockedAtMost}
use Rattle.running_condvar.specs.CondShown.{HasStayed as HasWaitedAtMost}
use Rattle.test_sleep.proofs.tests.bounded_buffer.make.Given as goal

abbrev pub invariant-loop : goal.invariant-loop
invariant-loop g l = record {
  same_borrow : borrow_of l.held ≡ borrow_of l.initial.held;
  locked : HasLockedAtMost (pass_of l.initial.held) (pass_of l.held);
  waited : HasWaitedAtMost l.fn.waits l.waits;
}
