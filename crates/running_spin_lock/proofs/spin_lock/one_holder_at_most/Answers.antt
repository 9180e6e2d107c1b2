use Rattle.running_spin_lock.proofs.Names.{spin_model, spin_is_for_one}
use Rattle.running_spin_lock.proofs.ValueKeeps.{one_holder}
use Rattle.running_spin_lock.proofs.spin_lock.one_holder_at_most.Goals as goal

pub returns : goal.returns
returns g c = one_holder spin_model spin_is_for_one
