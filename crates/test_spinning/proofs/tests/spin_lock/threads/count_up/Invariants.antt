use Rattle.running_spin_lock.specs.SpinShown.{HasStayed}
use Rattle.test_spinning.proofs.tests.spin_lock.threads.count_up.Given as goal

abbrev pub invariant-loop : goal.invariant-loop
invariant-loop g l = HasStayed l.fn.pass l.pass
