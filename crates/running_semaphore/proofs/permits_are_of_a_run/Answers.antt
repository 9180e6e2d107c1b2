use Rattle.running_semaphore.proofs.SemaphoreKeeps.{permits_are_of_a_run}
use Rattle.running_semaphore.proofs.permits_are_of_a_run.Goals as goal

pub returns : goal.returns
returns g = permits_are_of_a_run
