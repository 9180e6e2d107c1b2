use Rattle.std.proofs.Common.{◌≡◌}
use Rattle.running_mutex.specs.MutexShown.{pass_of, borrow_of, HasStayed as HasLockedAtMost}
use Rattle.running_condvar.specs.CondShown.{HasStayed}
use Rattle.test_sleep.proofs.tests.condition_variable.until_turn.Given as goal

abbrev pub invariant-loop : goal.invariant-loop
invariant-loop g l = record {
  borrow : borrow_of l.held ≡ borrow_of l.initial.held;
  held : HasLockedAtMost (pass_of l.initial.held) (pass_of l.held);
  stayed : HasStayed l.fn.pass l.pass;
}
