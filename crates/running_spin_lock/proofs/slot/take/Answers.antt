use Rattle.running_spin_lock.proofs.Names.{rest, ◌∷◌, Some, sym, ap, ◌∙◌}
use Rattle.running_spin_lock.proofs.slot.take.Goals as goal

pub exchange-requires : goal.exchange-requires
exchange-requires g c = let there = c.requires.there in (c.requires.own, (Some there.0, there.1 ∙ ap (λ slots. (0, Some there.0) ∷ rest slots) (sym there.1)))
