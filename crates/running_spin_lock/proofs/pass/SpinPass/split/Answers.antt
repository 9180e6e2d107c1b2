use Rattle.running_spin_lock.proofs.Names.{rules, splits_weight, splits}
use Rattle.running_spin_lock.proofs.ValueKeeps.{held_add_up}
use Rattle.running_spin_lock.proofs.pass.SpinPass.split.Goals as goal

pub split_seat-other-requires : goal.split_seat-other-requires
split_seat-other-requires g c = (search rules, search rules, splits _ _ _ held_add_up _ _ _ (search rules))

pub returns-clause-weights : goal.returns-clause-weights
returns-clause-weights g c = search (rules, splits_weight)
