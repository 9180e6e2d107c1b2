use Rattle.running_spin_lock.proofs.Names.{Call, Answer, HoldKind, all_of, MatchBool, Some, None, sym, subst, MatchBool-at_true, either_is_over, spin_model, HasPlayed}
use Rattle.running_spin_lock.proofs.SpinPlays.{try_ends, granted_has}
use Rattle.running_spin_lock.proofs.spin_lock.SpinLock.try_enter.Goals as goal

pub end-requires : goal.end-requires
end-requires g c = let t = c.first-free.ensures.tried in record { over = either_is_over spin_model c.first-free.result.0 Call.TryLock _ _ _ (try_ends _ t.0 _ _ t.1 t.2) }

pub returns-clause-played : goal.returns-clause-played
returns-clause-played g c = let t = c.first-free.ensures.tried in subst (λ q. MatchBool c.first-free.result.0 (HasPlayed Call.TryLock Answer.Success (Some HoldKind.Write) c.args.seat.me.0 q.me.0) (HasPlayed Call.TryLock Answer.Interrupted None c.args.seat.me.0 q.me.0)) (sym c.end.ensures.still) (try_ends _ t.0 _ _ t.1 t.2)

pub returns-clause-has : goal.returns-clause-has
returns-clause-has g c = λ done. granted_has Call.TryLock (all_of c.args.seat.me.0.tally.parties) _ (MatchBool-at_true _ _ done (returns-clause-played g c))
