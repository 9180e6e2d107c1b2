use Rattle.running_guarded.proofs.Names.{mutex_model, grants_are_of_a_run}
use Rattle.running_guarded.proofs.guarded.grants_are_of_a_run.Goals as goal

pub returns : goal.returns
returns g c = grants_are_of_a_run mutex_model
