use Rattle.running_semaphore.proofs.Names.{Call, Answer, semaphore_model, sym, subst, ◌∙◌, is_over, initial_of, HasPlayed}
use Rattle.running_semaphore.proofs.SemaphorePlays.{may_tell, tells}
use Rattle.running_semaphore.proofs.Semaphore.value.Goals as goal

pub first_look-seen-requires-clause-may : goal.first_look-seen-requires-clause-may
first_look-seen-requires-clause-may g c = may_tell _ _

pub returns-clause-played : goal.returns-clause-played
returns-clause-played g c = subst (λ q. HasPlayed (initial_of c.args.self.now) Call.Value (Answer.Number c.first_look-seen.result.0) c.args.pass.now q) (sym (c.pass-1.given.1 (sym c.first_look-seen.ensures.same_borrow ∙ sym c.end-pass.ensures.same_borrow) ∙ c.end-pass.ensures.still)) (tells _ _ _ _ c.first_look-seen.ensures.went)

pub end-pass-requires-clause-over : goal.end-pass-requires-clause-over
end-pass-requires-clause-over g c = is_over (semaphore_model (initial_of c.args.self.now)) Call.Value _ _ _ _ (tells _ _ _ _ c.first_look-seen.ensures.went)
