use Rattle.running_spin_lock.proofs.Names.{rules}
use Rattle.running_spin_lock.proofs.ValueKeeps.{opens}
use Rattle.running_spin_lock.proofs.slot.new.Goals as goal

pub new-requires : goal.new-requires
new-requires g c = opens (g.M.Script.model tt) (g.M.Script.lawful tt) _ g.met.M.ForOne.one_word (g.met.M.ForOne.for_one 0).opens c.args.value _ (search rules)
