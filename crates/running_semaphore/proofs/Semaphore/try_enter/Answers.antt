use Rattle.running_semaphore.proofs.Names.{Call, Answer, all_of, parties_of, semaphore_model, MatchBool, sym, subst, ◌∙◌, is_over, either_is_over, initial_of, HasPlayed, Trying}
use Rattle.running_semaphore.proofs.SemaphorePlays.{try_begins}
use Rattle.running_semaphore.proofs.Semaphore.try_enter.Goals as goal

pub take_from-took-requires-clause-at : goal.take_from-took-requires-clause-at
take_from-took-requires-clause-at g c = (Trying, all_of (parties_of c.args.pass.now), c.in-Err.ensures.goes_on Trying _ (try_begins _ (parties_of c.args.pass.now)))

pub end-pass-requires-clause-over : goal.end-pass-requires-clause-over
end-pass-requires-clause-over g c = is_over (semaphore_model (initial_of c.args.self.now)) Call.TryWait _ _ _ _ (c.in-Ok.ensures.granted Trying _ (try_begins _ (parties_of c.args.pass.now)))

pub end-pass-requires-in-Err-clause-over : goal.end-pass-requires-in-Err-clause-over
end-pass-requires-in-Err-clause-over g c = either_is_over (semaphore_model (initial_of c.args.self.now)) c.take_from-took.result.0 Call.TryWait _ _ _ (c.take_from-took.ensures.wanted Trying _ (c.in-Err.ensures.goes_on Trying _ (try_begins _ (parties_of c.args.pass.now))))

pub returns-in-Ok-clause-played : goal.returns-in-Ok-clause-played
returns-in-Ok-clause-played g c = subst (λ q. HasPlayed (initial_of c.args.self.now) Call.TryWait Answer.Success c.args.pass.now q) (sym (c.pass-1.given.1 (sym c.in-Ok.ensures.same_borrow ∙ sym c.end-pass.ensures.same_borrow) ∙ c.end-pass.ensures.still)) (c.in-Ok.ensures.granted Trying _ (try_begins _ (parties_of c.args.pass.now)))

pub returns-in-Err-clause-played : goal.returns-in-Err-clause-played
returns-in-Err-clause-played g c = subst (λ q. MatchBool c.take_from-took.result.0 (HasPlayed (initial_of c.args.self.now) Call.TryWait Answer.Success c.args.pass.now q) (HasPlayed (initial_of c.args.self.now) Call.TryWait Answer.Interrupted c.args.pass.now q)) (sym (c.pass-in-Err-1.given.1 (sym c.in-Err.ensures.same_borrow_too ∙ sym c.take_from-took.ensures.same_borrow ∙ sym c.end-pass-in-Err.ensures.same_borrow) ∙ c.end-pass-in-Err.ensures.still)) (c.take_from-took.ensures.wanted Trying _ (c.in-Err.ensures.goes_on Trying _ (try_begins _ (parties_of c.args.pass.now))))
