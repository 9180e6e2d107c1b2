use Rattle.running_mutex.proofs.MutexKeeps.{grants_are_of_a_run}
use Rattle.running_mutex.proofs.grants_are_of_a_run.Goals as goal

pub returns : goal.returns
returns g = grants_are_of_a_run
