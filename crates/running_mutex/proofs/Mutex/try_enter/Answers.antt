use Rattle.running_mutex.proofs.Names.{Answer, HoldKind, Call, parties_of, mutex_model, MatchBool, Some, None, sym, subst, ◌∙◌, MatchBool-at_true, either_is_over, HasPlayed, HasMutex}
use Rattle.running_mutex.proofs.MutexPlays.{try_ends, granted_has}
use Rattle.running_mutex.proofs.Mutex.try_enter.Goals as goal

pub returns-clause-played : goal.returns-clause-played
returns-clause-played g c = let t = c.first-free.ensures.tried in subst (λ q. MatchBool c.first-free.result.0 (HasPlayed Call.TryLock Answer.Success (Some HoldKind.Write) c.args.pass.now q) (HasPlayed Call.TryLock Answer.Interrupted None c.args.pass.now q)) (sym (c.pass-1.given.1 (sym c.first-free.ensures.same_borrow ∙ sym c.end-pass.ensures.same_borrow) ∙ c.end-pass.ensures.still)) (try_ends _ t.0 _ _ t.1 t.2)

pub returns-clause-has : goal.returns-clause-has
returns-clause-has g c = λ done. let t = c.first-free.ensures.tried in subst (λ q. HasMutex (parties_of q)) (sym (c.pass-1.given.1 (sym c.first-free.ensures.same_borrow ∙ sym c.end-pass.ensures.same_borrow) ∙ c.end-pass.ensures.still)) (granted_has Call.TryLock (parties_of c.args.pass.now) _ (MatchBool-at_true _ _ done (try_ends _ t.0 _ _ t.1 t.2)))

pub end-pass-requires-clause-over : goal.end-pass-requires-clause-over
end-pass-requires-clause-over g c = let t = c.first-free.ensures.tried in either_is_over mutex_model c.first-free.result.0 Call.TryLock _ _ _ (try_ends _ t.0 _ _ t.1 t.2)
