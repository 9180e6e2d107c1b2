use Rattle.running_guarded.proofs.Names.{rules, joins, held_add_up}
use Rattle.running_guarded.proofs.pass.GuardedPass.absorb.Goals as goal

pub join_seat-requires : goal.join_seat-requires
join_seat-requires g c = (search rules, search rules, search rules, search rules, joins _ _ _ held_add_up _ _ _ _ _ (search rules))
