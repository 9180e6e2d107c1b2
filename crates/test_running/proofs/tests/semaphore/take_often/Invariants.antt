use Rattle.running_semaphore.specs.SemaphoreShown.{HasCounted}
use Rattle.test_running.proofs.tests.semaphore.take_often.Given as goal

abbrev pub invariant-loop : goal.invariant-loop
invariant-loop g l = HasCounted 0 l.counter l.fn.pass l.pass
