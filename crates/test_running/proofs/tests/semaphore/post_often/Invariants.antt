use Rattle.running_semaphore.specs.SemaphoreShown.{HasCounted}
use Rattle.test_running.proofs.tests.semaphore.post_often.Given as goal

abbrev pub invariant-loop : goal.invariant-loop
invariant-loop l = HasCounted l.counter 0 l.fn.pass l.pass
