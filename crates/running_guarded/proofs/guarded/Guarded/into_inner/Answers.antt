use Rattle.running_guarded.proofs.Names.{IsWhole, mutex_model, sym, subst, ◌∙◌, ap, closes, is_there, MutexView}
use Rattle.running_guarded.proofs.guarded.Guarded.into_inner.Goals as goal

pub unwrap-requires : goal.unwrap-requires
unwrap-requires g c = is_there _ _ (closes mutex_model _ _ _ _ c.close_with-closed.ensures.values.2
    (subst (λ (v : MutexView). IsWhole v.part) (sym c.rise-seat.ensures.view) c.requires.whole)
    (ap (λ (v : MutexView). v.tally.counts.holds) c.rise-seat.ensures.view ∙ c.args.pass.off)) c.take-slot.ensures.value
