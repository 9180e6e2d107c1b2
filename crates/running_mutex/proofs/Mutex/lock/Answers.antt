use Rattle.running_mutex.proofs.Names.{◌≡◌, refl, sym, subst, ◌∙◌, MatchBool-at_false, true≢false}
use Rattle.running_model.proofs.Questions.{aborted_by, asked_by}
use Rattle.running_mutex.proofs.MutexTries.{questions}
use Rattle.running_mutex.proofs.Mutex.lock.Goals as goal

pub returns-else-locked : goal.returns-else-locked
returns-else-locked g c =
    let asked = (questions _ _ _ _ _ c.args.pass.now c.enter-locked.new.pass c.enter-locked.ensures.asked c.if-locked.false).2 in (
      (refl, λ _. tt, ((MatchBool-at_false _ _ c.if-locked.false c.enter-locked.ensures.entered, asked_by _ _ _ g.W.Fn c.args.wait (λ f. f ≡ c.args.wait) (λ f a r after good called. (g.met.W.Fn.1.step_stays _ _ _ _ called ∙ good, record { met = subst (λ x. g.W.Fn.post x a r) good ((g.met.W.FnMut.1.post_iff _ _ _).1 (after, called)) })) _ _ _ _ _ _ _ asked refl c.if-locked.false tt), MatchBool-at_false _ _ c.if-locked.false c.enter-locked.ensures.played)),
      record {
        refused = tt;
        same_borrow = tt;
        granted = tt;
        played = tt;
        exact = λ alone. absurd (true≢false (sym (c.enter-locked.ensures.exact alone) ∙ c.if-locked.false));
        aborted = aborted_by _ _ _ g.W.Fn c.args.wait (λ f. f ≡ c.args.wait) (λ f a r after good called. (g.met.W.Fn.1.step_stays _ _ _ _ called ∙ good, record { met = subst (λ x. g.W.Fn.post x a r) good ((g.met.W.FnMut.1.post_iff _ _ _).1 (after, called)) })) _ _ _ _ _ _ _ asked refl c.if-locked.false;
      },
    )
