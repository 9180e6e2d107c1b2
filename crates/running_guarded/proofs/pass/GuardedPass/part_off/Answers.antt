use Rattle.running_guarded.proofs.Names.{rules, splits, held_add_up}
use Rattle.running_guarded.proofs.pass.GuardedPass.part_off.Goals as goal

pub split_seat-half-requires : goal.split_seat-half-requires
split_seat-half-requires g c = (search rules, search rules, splits _ _ _ held_add_up _ _ _ (search rules))
