use Rattle.running_spin_lock.specs.SpinShown.{HasStayed}
use Rattle.demo_spin_counter.proofs.add_often.Given as goal

abbrev pub invariant-loop : goal.invariant-loop
invariant-loop g l = HasStayed l.fn.pass l.pass
