use Rattle.running_semaphore.proofs.Names.{Call, initial_of, HasPlayed, ◌≡◌, refl, subst, ◌∙◌}
use Rattle.running_semaphore.proofs.SemaphorePlays.{answered_so}
use Rattle.running_semaphore.proofs.SemaphoreTakes.{if_not_taken}
use Rattle.running_model.proofs.Questions.{aborted_by, asked_by}
use Rattle.running_semaphore.proofs.Semaphore.wait.Goals as goal

pub returns-clause-played : goal.returns-clause-played
returns-clause-played g c = answered_so _ _ (λ answer. HasPlayed (initial_of c.args.self.now) Call.Wait answer c.args.pass.now c.enter-took.new.pass) c.success_if.ensures c.enter-took.ensures.played

pub returns-clause-aborted : goal.returns-clause-aborted
returns-clause-aborted g c = if_not_taken _ _ _ c.success_if.ensures (aborted_by _ _ _ g.W.Fn c.args.wait (λ f. f ≡ c.args.wait) (λ f a r after good called. (g.met.W.Fn.1.step_stays _ _ _ _ called ∙ good, record { met = subst (λ x. g.W.Fn.post x a r) good ((g.met.W.FnMut.1.post_iff _ _ _).1 (after, called)) })) _ _ _ _ _ _ _ c.enter-took.ensures.asked refl)

pub returns-clause-asked : goal.returns-clause-asked
returns-clause-asked g c = λ whole. if_not_taken _ _ _ c.success_if.ensures (λ no. asked_by _ _ _ g.W.Fn c.args.wait (λ f. f ≡ c.args.wait) (λ f a r after good called. (g.met.W.Fn.1.step_stays _ _ _ _ called ∙ good, record { met = subst (λ x. g.W.Fn.post x a r) good ((g.met.W.FnMut.1.post_iff _ _ _).1 (after, called)) })) _ _ _ _ _ _ _ c.enter-took.ensures.asked refl no whole)
