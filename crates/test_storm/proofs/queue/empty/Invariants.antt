use Rattle.job_queue.specs.QueueShown.{IsQueuePass}
use Rattle.test_storm.proofs.queue.empty.Given as goal

abbrev pub invariant-loop : goal.invariant-loop
invariant-loop g l = IsQueuePass l.queue l.pass
