use Rattle.running_condvar.specs.CondShown.{IsCondPass}
use Rattle.test_sleep.proofs.tests.notified.notify_often.Given as goal

abbrev pub invariant-loop : goal.invariant-loop
invariant-loop g l = IsCondPass l.condvar l.pass
