use Rattle.job_queue.specs.QueueShown.{IsQueuePass}
use Rattle.test_values.proofs.tests.queue.queue.room_in.Given as goal

abbrev pub invariant-loop-job : goal.invariant-loop-job
invariant-loop-job g l = IsQueuePass l.fn.queue l.pass
