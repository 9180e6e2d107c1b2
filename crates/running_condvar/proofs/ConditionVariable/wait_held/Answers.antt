use Rattle.running_condvar.proofs.Names.{refl, sym, subst, ◌≡◌, ◌∙◌, true≢false, MatchBool-at_true, MatchBool-at_false, pass_of}
use Rattle.running_mutex.proofs.MutexTries.{alone_again, questions}
use Rattle.running_model.proofs.Questions.{aborted_by, asked_by, says_of}
use Rattle.running_condvar.proofs.CondCalls.{told_of, took_or_not, took_some, took_none, regains, leaves}
use denote.Param.Always.{mut_under}
use Rattle.running_condvar.proofs.ConditionVariable.wait_held.Goals as goal

pub enter-locked-requires : goal.enter-locked-requires
enter-locked-requires g c = λ k. ((refl, tt), (c.unlock_and_sleep-signalled.ensures.unlocked.0.0 ∙ c.requires.own.1, mut_under g.M.Fn c.args.mtx_wait g.met.M.Fn.1 c.requires.may.2))

pub returns-then-not-locked : goal.returns-then-not-locked
returns-then-not-locked g c =
    let slept = c.unlock_and_sleep-signalled.ensures in
    let came = told_of _ _ c.args.wait _ _ _ _ g.W.Fn (λ f a r after good called. (g.met.W.Fn.1.step_stays _ _ _ _ called ∙ good, record { met = subst (λ x. g.W.Fn.post x a r) good ((g.met.W.FnMut.1.post_iff _ _ _).1 (after, called)) })) c.unlock_and_sleep-signalled.result.0 slept.slept in
    let asked = (questions _ _ _ _ _ c.unlock_and_sleep-signalled.new.mtx_pass c.enter-locked.new.pass c.enter-locked.ensures.asked c.if-not-locked.true).2 in (
      (
        refl,
        λ _. tt,
        (leaves g.M.Fn c.args.mtx_wait (pass_of c.args.hold) c.unlock_and_sleep-signalled.new.mtx_pass c.enter-locked.new.pass slept.unlocked (MatchBool-at_false _ _ c.if-not-locked.true c.enter-locked.ensures.entered, asked_by _ _ _ g.M.Fn c.args.mtx_wait (λ f. f ≡ c.args.mtx_wait) (λ f a r after good called. (g.met.M.Fn.1.step_stays _ _ _ _ called ∙ good, record { met = subst (λ x. g.M.Fn.post x a r) good ((g.met.M.FnMut.1.post_iff _ _ _).1 (after, called)) })) _ _ _ _ _ _ _ asked refl c.if-not-locked.true tt), (_, slept.played_unlock, MatchBool-at_false _ _ c.if-not-locked.true c.enter-locked.ensures.played)),
      ),
      record {
        left = tt;
        same_borrow = tt;
        relocked = tt;
        regained = tt;
        counted = record { counted = slept.counted; played = slept.played };
        signalled = tt;
        unsignalled = tt;
        gave_up = took_or_not _ _ _ came;
        aborted = aborted_by _ _ _ g.M.Fn c.args.mtx_wait (λ f. f ≡ c.args.mtx_wait) (λ f a r after good called. (g.met.M.Fn.1.step_stays _ _ _ _ called ∙ good, record { met = subst (λ x. g.M.Fn.post x a r) good ((g.met.M.FnMut.1.post_iff _ _ _).1 (after, called)) })) _ _ _ _ _ _ _ asked refl c.if-not-locked.true;
        exact = λ whole. true≢false (sym (c.enter-locked.ensures.exact (alone_again (pass_of c.args.hold) c.unlock_and_sleep-signalled.new.mtx_pass slept.unlocked whole)) ∙ c.if-not-locked.true);
        some = λ whole some. took_some _ _ _ _ came (slept.slept.worth whole) some;
        none = λ whole none. took_none _ _ _ _ came (slept.slept.worth whole) none;
        woke = record { word = _; of = slept.woke.of; says = says_of _ g.K.Fn _ _ _ _ (λ a e. (g.met.K.FnMut.1.post_iff _ _ _).1 (_, e)) slept.woke.called };
      },
    )

pub returns-then-signalled : goal.returns-then-signalled
returns-then-signalled g c =
    let slept = c.unlock_and_sleep-signalled.ensures in
    let came = told_of _ _ c.args.wait _ _ _ _ g.W.Fn (λ f a r after good called. (g.met.W.Fn.1.step_stays _ _ _ _ called ∙ good, record { met = subst (λ x. g.W.Fn.post x a r) good ((g.met.W.FnMut.1.post_iff _ _ _).1 (after, called)) })) c.unlock_and_sleep-signalled.result.0 slept.slept in (
      (refl, λ _. refl, tt),
      record {
        left = tt;
        same_borrow = refl;
        regained = regains (pass_of c.args.hold) c.unlock_and_sleep-signalled.new.mtx_pass c.enter-locked.new.pass slept.unlocked (MatchBool-at_true _ _ c.if-not-locked.false c.enter-locked.ensures.entered);
        counted = record { counted = slept.counted; played = slept.played };
        relocked = (_, slept.played_unlock, MatchBool-at_true _ _ c.if-not-locked.false c.enter-locked.ensures.played);
        signalled = MatchBool-at_true _ _ c.if-signalled.true came;
        unsignalled = tt;
        gave_up = tt;
        aborted = tt;
        exact = λ _. tt;
        some = λ whole some. took_some _ _ _ _ came (slept.slept.worth whole) some;
        none = λ whole none. took_none _ _ _ _ came (slept.slept.worth whole) none;
        woke = record { word = _; of = slept.woke.of; says = says_of _ g.K.Fn _ _ _ _ (λ a e. (g.met.K.FnMut.1.post_iff _ _ _).1 (_, e)) slept.woke.called };
      },
    )

pub returns-else-signalled : goal.returns-else-signalled
returns-else-signalled g c =
    let slept = c.unlock_and_sleep-signalled.ensures in
    let came = told_of _ _ c.args.wait _ _ _ _ g.W.Fn (λ f a r after good called. (g.met.W.Fn.1.step_stays _ _ _ _ called ∙ good, record { met = subst (λ x. g.W.Fn.post x a r) good ((g.met.W.FnMut.1.post_iff _ _ _).1 (after, called)) })) c.unlock_and_sleep-signalled.result.0 slept.slept in (
      (refl, λ _. refl, tt),
      record {
        left = tt;
        same_borrow = refl;
        regained = regains (pass_of c.args.hold) c.unlock_and_sleep-signalled.new.mtx_pass c.enter-locked.new.pass slept.unlocked (MatchBool-at_true _ _ c.if-not-locked.false c.enter-locked.ensures.entered);
        counted = record { counted = slept.counted; played = slept.played };
        relocked = (_, slept.played_unlock, MatchBool-at_true _ _ c.if-not-locked.false c.enter-locked.ensures.played);
        signalled = tt;
        unsignalled = MatchBool-at_false _ _ c.if-signalled.false came;
        gave_up = tt;
        aborted = tt;
        exact = λ _. tt;
        some = λ whole some. took_some _ _ _ _ came (slept.slept.worth whole) some;
        none = λ whole none. took_none _ _ _ _ came (slept.slept.worth whole) none;
        woke = record { word = _; of = slept.woke.of; says = says_of _ g.K.Fn _ _ _ _ (λ a e. (g.met.K.FnMut.1.post_iff _ _ _).1 (_, e)) slept.woke.called };
      },
    )
