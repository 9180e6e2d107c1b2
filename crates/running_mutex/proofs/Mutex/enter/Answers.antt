use Rattle.running_mutex.proofs.Names.{Answer, HoldKind, Call, all_of, Beginning, spun, parties_of, mutex_model, Some, None, MatchBool, refl, sym, subst, ◌∙◌, MatchBool-at_true, MatchBool-at_false, is_over, either_is_over, HasPlayed, HasEntered, HasAskedToLock, IsItsWord}
use Rattle.std.proofs.Common.{inl}
use Rattle.running_mutex.proofs.MutexPlays.{lock_begins, may_lock, lock_first, granted_has}
use Rattle.running_mutex.proofs.MutexTries.{locks_once, asks_to_lock}
use Rattle.running_mutex.proofs.Mutex.enter.Goals as goal

pub first-free-requires-clause-may : goal.first-free-requires-clause-may
first-free-requires-clause-may g c = λ put is. may_lock (Beginning Call.Lock) _ put is (record { patience = spun 0; done = all_of (parties_of c.args.pass.now); comes = lock_begins (parties_of c.args.pass.now) })

pub try_again_by-granted-requires-clause-at : goal.try_again_by-granted-requires-clause-at
try_again_by-granted-requires-clause-at g c = (all_of (parties_of c.args.pass.now), MatchBool-at_false _ _ c.if-free.false (lock_first _ _ _ c.first-free.ensures.tried))

pub end-pass-requires-clause-over : goal.end-pass-requires-clause-over
end-pass-requires-clause-over g c = is_over mutex_model Call.Lock _ _ _ _ (MatchBool-at_true _ _ c.if-free.true (lock_first _ _ _ c.first-free.ensures.tried))

pub end-pass-requires-2-clause-over : goal.end-pass-requires-2-clause-over
end-pass-requires-2-clause-over g c = either_is_over mutex_model c.try_again_by-granted.result.0 Call.Lock _ _ _ (c.try_again_by-granted.ensures.over (all_of (parties_of c.args.pass.now)) (MatchBool-at_false _ _ c.if-free.false (lock_first _ _ _ c.first-free.ensures.tried)))

pub returns-then-free : goal.returns-then-free
returns-then-free g c = let played = subst (λ q. HasPlayed Call.Lock Answer.Success (Some HoldKind.Write) c.args.pass.now q) (sym (c.pass-1.given.1 (sym c.first-free.ensures.same_borrow ∙ sym c.end-pass.ensures.same_borrow) ∙ c.end-pass.ensures.still)) (MatchBool-at_true _ _ c.if-free.true (lock_first _ _ _ c.first-free.ensures.tried)) in record {
  entered = subst (λ q. HasEntered c.args.pass.now q) (sym (c.pass-1.given.1 (sym c.first-free.ensures.same_borrow ∙ sym c.end-pass.ensures.same_borrow) ∙ c.end-pass.ensures.still)) (locks_once c.args.pass.now c.first-free.result.1.pass.now (MatchBool-at_true _ _ c.if-free.true c.first-free.ensures.locked));
  played = played;
  has = λ _. granted_has Call.Lock (parties_of c.args.pass.now) _ played;
  exact = λ _. refl;
  asked = inl (refl, refl);
}

pub returns-clause-played : goal.returns-clause-played
returns-clause-played g c = subst (λ q. MatchBool c.try_again_by-granted.result.0 (HasPlayed Call.Lock Answer.Success (Some HoldKind.Write) c.args.pass.now q) (HasPlayed Call.Lock Answer.Interrupted None c.args.pass.now q)) (sym (c.pass-2-1.given.1 (sym c.first-free.ensures.same_borrow ∙ sym c.try_again_by-granted.ensures.same_borrow ∙ sym c.end-pass-2.ensures.same_borrow) ∙ c.end-pass-2.ensures.still)) (c.try_again_by-granted.ensures.over (all_of (parties_of c.args.pass.now)) (MatchBool-at_false _ _ c.if-free.false (lock_first _ _ _ c.first-free.ensures.tried)))

pub returns-clause-has : goal.returns-clause-has
returns-clause-has g c = λ granted. granted_has Call.Lock (parties_of c.args.pass.now) _ (MatchBool-at_true _ _ granted (returns-clause-played g c))

pub returns-clause-asked : goal.returns-clause-asked
returns-clause-asked g c = subst (λ q. HasAskedToLock g.W.FnMut (λ word. IsItsWord c.args.self.now (g.X.Shown.object word) (g.X.Shown.index word)) c.args.wait c.try_again_by-granted.result.2 c.try_again_by-granted.result.0 c.args.pass.now q) (sym (c.pass-2-1.given.1 (sym c.first-free.ensures.same_borrow ∙ sym c.try_again_by-granted.ensures.same_borrow ∙ sym c.end-pass-2.ensures.same_borrow) ∙ c.end-pass-2.ensures.still))
    (asks_to_lock g.W.FnMut (λ word. IsItsWord c.args.self.now (g.X.Shown.object word) (g.X.Shown.index word)) _ _ _ _ c.args.pass.now c.first-free.result.1.pass.now c.try_again_by-granted.result.1.pass.now (c.word.ensures.object, c.word.ensures.index) (MatchBool-at_false _ _ c.if-free.false c.first-free.ensures.locked) c.try_again_by-granted.ensures.asked)
