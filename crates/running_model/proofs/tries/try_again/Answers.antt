use Rattle.running_model.proofs.Names.{◌≡◌, ◌∙◌, refl, subst}
use Rattle.running_model.proofs.Questions.{aborted_by, asked_by}
use Rattle.running_model.proofs.tries.try_again.Goals as goal

pub returns-clause-aborted : goal.returns-clause-aborted
returns-clause-aborted g c = λ no. aborted_by _ _ _ g.W.Fn c.args.wait (λ f. f ≡ c.args.wait) (λ f a r after good called. (g.met.W.Fn.1.step_stays _ _ _ _ called ∙ good, record { met = subst (λ x. g.W.Fn.post x a r) good ((g.met.W.FnMut.1.post_iff _ _ _).1 (after, called)) })) _ _ _ _ _ _ _ c.try_again_by-granted.ensures.asked refl no

pub returns-clause-asked : goal.returns-clause-asked
returns-clause-asked g c = λ no once. asked_by _ _ _ g.W.Fn c.args.wait (λ f. f ≡ c.args.wait) (λ f a r after good called. (g.met.W.Fn.1.step_stays _ _ _ _ called ∙ good, record { met = subst (λ x. g.W.Fn.post x a r) good ((g.met.W.FnMut.1.post_iff _ _ _).1 (after, called)) })) _ _ _ _ _ _ _ c.try_again_by-granted.ensures.asked refl no once
