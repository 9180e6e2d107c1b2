use Rattle.running_semaphore.specs.SemaphoreShown.{HasCounted}
use Rattle.test_running.proofs.tests.semaphore_buffer.pass_on.Given as goal

abbrev pub invariant-loop : goal.invariant-loop
invariant-loop g l = HasCounted 0 l.counter l.fn.side.taking l.side.taking × HasCounted l.counter 0 l.fn.side.giving l.side.giving
