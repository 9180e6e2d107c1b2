use Rattle.running_semaphore.proofs.Names.{Call, Answer, IsWhole, AskedForPermit, all_of, spun, parties_of, semaphore_model, MatchBool, sym, ap, subst, ◌∙◌, MatchBool-at_true, MatchBool-at_false, is_over, either_is_over, Waiting, HasPlayed, initial_of}
use Rattle.running_semaphore.proofs.SemaphorePlays.{may_wait, wait_begins}
use Rattle.running_semaphore.proofs.Asked.{asked_later, may_again}
use Rattle.running_semaphore.proofs.Semaphore.enter.Goals as goal

pub first_take-requires-clause-comes : goal.first_take-requires-clause-comes
first_take-requires-clause-comes g c = may_wait _ _

pub take_from-took-requires-clause-at : goal.take_from-took-requires-clause-at
take_from-took-requires-clause-at g c = (Waiting (spun 0), all_of (parties_of c.args.pass.now), c.in-Err.ensures.goes_on (Waiting (spun 0)) _ (wait_begins _ (parties_of c.args.pass.now)))

pub end-pass-requires-clause-over : goal.end-pass-requires-clause-over
end-pass-requires-clause-over g c = is_over (semaphore_model (initial_of c.args.self.now)) Call.Wait _ _ _ _ (c.in-Ok.ensures.granted (Waiting (spun 0)) _ (wait_begins _ (parties_of c.args.pass.now)))

pub try_again_by-granted-requires-clause-at : goal.try_again_by-granted-requires-clause-at
try_again_by-granted-requires-clause-at g c = (all_of (parties_of c.args.pass.now), (MatchBool-at_false _ _ c.if-took.false (c.take_from-took.ensures.wanted (Waiting (spun 0)) _ (c.in-Err.ensures.goes_on (Waiting (spun 0)) _ (wait_begins _ (parties_of c.args.pass.now))))))

pub returns-in-Ok-clause-played : goal.returns-in-Ok-clause-played
returns-in-Ok-clause-played g c = subst (λ q. HasPlayed (initial_of c.args.self.now) Call.Wait Answer.Success c.args.pass.now q) (sym (c.pass-1.given.1 (sym c.in-Ok.ensures.same_borrow ∙ sym c.end-pass.ensures.same_borrow) ∙ c.end-pass.ensures.still)) (c.in-Ok.ensures.granted (Waiting (spun 0)) _ (wait_begins _ (parties_of c.args.pass.now)))

pub end-pass-requires-then-took-clause-over : goal.end-pass-requires-then-took-clause-over
end-pass-requires-then-took-clause-over g c = is_over (semaphore_model (initial_of c.args.self.now)) Call.Wait _ _ _ _ (MatchBool-at_true _ _ c.if-took.true (c.take_from-took.ensures.wanted (Waiting (spun 0)) _ (c.in-Err.ensures.goes_on (Waiting (spun 0)) _ (wait_begins _ (parties_of c.args.pass.now)))))

pub end-pass-requires-in-Err-clause-over : goal.end-pass-requires-in-Err-clause-over
end-pass-requires-in-Err-clause-over g c = either_is_over (semaphore_model (initial_of c.args.self.now)) c.try_again_by-granted.result.0 Call.Wait _ _ _ (c.try_again_by-granted.ensures.over (all_of (parties_of c.args.pass.now)) (MatchBool-at_false _ _ c.if-took.false (c.take_from-took.ensures.wanted (Waiting (spun 0)) _ (c.in-Err.ensures.goes_on (Waiting (spun 0)) _ (wait_begins _ (parties_of c.args.pass.now))))))

pub returns-then-took-clause-played : goal.returns-then-took-clause-played
returns-then-took-clause-played g c = subst (λ q. HasPlayed (initial_of c.args.self.now) Call.Wait Answer.Success c.args.pass.now q) (sym (c.pass-then-took-1.given.1 (sym c.in-Err.ensures.same_borrow_too ∙ sym c.take_from-took.ensures.same_borrow ∙ sym c.end-pass-then-took.ensures.same_borrow) ∙ c.end-pass-then-took.ensures.still)) (MatchBool-at_true _ _ c.if-took.true (c.take_from-took.ensures.wanted (Waiting (spun 0)) _ (c.in-Err.ensures.goes_on (Waiting (spun 0)) _ (wait_begins _ (parties_of c.args.pass.now)))))

pub returns-else-took-clause-played : goal.returns-else-took-clause-played
returns-else-took-clause-played g c = subst (λ q. MatchBool c.try_again_by-granted.result.0 (HasPlayed (initial_of c.args.self.now) Call.Wait Answer.Success c.args.pass.now q) (HasPlayed (initial_of c.args.self.now) Call.Wait Answer.Interrupted c.args.pass.now q)) (sym (c.pass-in-Err-1.given.1 (sym c.in-Err.ensures.same_borrow_too ∙ sym c.take_from-took.ensures.same_borrow ∙ sym c.try_again_by-granted.ensures.same_borrow ∙ sym c.end-pass-in-Err.ensures.same_borrow) ∙ c.end-pass-in-Err.ensures.still)) (c.try_again_by-granted.ensures.over (all_of (parties_of c.args.pass.now)) (MatchBool-at_false _ _ c.if-took.false (c.take_from-took.ensures.wanted (Waiting (spun 0)) _ (c.in-Err.ensures.goes_on (Waiting (spun 0)) _ (wait_begins _ (parties_of c.args.pass.now))))))

pub returns-else-took-clause-asked : goal.returns-else-took-clause-asked
returns-else-took-clause-asked g c = let none = (MatchBool-at_false _ _ c.if-took.false (c.take_from-took.ensures.takes c.args.pass.now c.in-Err.ensures.looked)) in subst (λ q. AskedForPermit g.W.FnMut c.args.word.now.shown c.args.wait c.try_again_by-granted.result.2 c.try_again_by-granted.result.0 c.args.pass.now q) (sym (c.pass-in-Err-1.given.1 (sym c.in-Err.ensures.same_borrow_too ∙ sym c.take_from-took.ensures.same_borrow ∙ sym c.try_again_by-granted.ensures.same_borrow ∙ sym c.end-pass-in-Err.ensures.same_borrow) ∙ c.end-pass-in-Err.ensures.still))
    (asked_later _ _ _ 1 10000 _ _ _ _ _ _ _ _ (subst IsWhole (sym none.refused.stayed.part)) (λ whole. ap (λ v. v.sights.count) (none.once whole).1) c.try_again_by-granted.ensures.asked)

pub returns-else-took-clause-may_again : goal.returns-else-took-clause-may_again
returns-else-took-clause-may_again g c = may_again _ _ _ _ _ _ _ _ _ _ c.try_again_by-granted.ensures.asked c.requires.may
