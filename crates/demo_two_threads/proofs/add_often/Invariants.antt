use Rattle.running_mutex.specs.MutexShown.{HasStayed}
use Rattle.demo_two_threads.proofs.add_often.Given as goal

abbrev pub invariant-loop : goal.invariant-loop
invariant-loop g l = HasStayed l.fn.pass l.pass
