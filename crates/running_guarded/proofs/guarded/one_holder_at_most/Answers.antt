use Rattle.running_guarded.proofs.Names.{mutex_model, one_holder, mutex_is_for_one}
use Rattle.running_guarded.proofs.guarded.one_holder_at_most.Goals as goal

pub returns : goal.returns
returns g c = one_holder mutex_model mutex_is_for_one
