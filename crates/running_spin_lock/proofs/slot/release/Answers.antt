use Rattle.running_spin_lock.proofs.Names.{ap, ◌∙◌}
use Rattle.running_spin_lock.proofs.ValueKeeps.{lets_go}
use Rattle.running_spin_lock.proofs.slot.release.Goals as goal

pub returns-clause-off : goal.returns-clause-off
returns-clause-off g c = let me = ap (λ s. s.me) c.begin_held-begun.ensures.still ∙ c.exchange.ensures.3 in
    lets_go (g.M.Script.model tt) _ g.met.M.ForOne.one_word _ c.args.seat.me.0 c.store.result.seat.me.0 c.requires.may c.requires.on (rw (ap (λ m. m.0) me) at c.store.ensures.stepped.acted.told)

pub returns-clause-no_slot : goal.returns-clause-no_slot
returns-clause-no_slot g c = let me = ap (λ s. s.me) c.begin_held-begun.ensures.still ∙ c.exchange.ensures.3 in
    c.store.ensures.carries.off (ap (λ u. u.tally.holds) (lets_go (g.M.Script.model tt) _ g.met.M.ForOne.one_word _ c.args.seat.me.0 c.store.result.seat.me.0 c.requires.may c.requires.on (rw (ap (λ m. m.0) me) at c.store.ensures.stepped.acted.told)).1)
