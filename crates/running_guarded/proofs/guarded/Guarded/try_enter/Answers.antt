use Rattle.running_guarded.proofs.Names.{Call, Answer, HoldKind, mutex_model, MatchBool, Some, None, refl, sym, subst, MatchBool-at_true, either_is_over, may_try_lock, try_ends, granted_has, Plays}
use Rattle.running_guarded.proofs.guarded.Guarded.try_enter.Goals as goal

pub first-free-requires-clause-may : goal.first-free-requires-clause-may
first-free-requires-clause-may g c = may_try_lock _ 1 refl

pub end-requires : goal.end-requires
end-requires g c = let t = c.first-free.ensures.tried in record { over = either_is_over mutex_model c.first-free.result.0 Call.TryLock _ _ _ (try_ends _ t.0 _ _ t.1 t.2) }

pub returns-clause-played : goal.returns-clause-played
returns-clause-played g c = let t = c.first-free.ensures.tried in
    subst (λ s. MatchBool c.first-free.result.0 (Plays Call.TryLock Answer.Success (Some HoldKind.Write) c.args.seat.me.0 s.me.0) (Plays Call.TryLock Answer.Interrupted None c.args.seat.me.0 s.me.0)) (sym c.end.ensures.still)
    (try_ends _ t.0 _ _ t.1 t.2)

pub returns-clause-has : goal.returns-clause-has
returns-clause-has g c = λ done. granted_has Call.TryLock c.args.seat.me.0.tally.parties _ (MatchBool-at_true _ _ done (returns-clause-played g c))
