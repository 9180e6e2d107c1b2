use Rattle.running_guarded.proofs.Names.{IsLocked, Enters, GivesUp, refl, ◌≡◌, ◌∙◌, Call, Answer, HoldKind, mutex_model, all_of, MatchBool, Some, None, sym, subst, MatchBool-at_true, MatchBool-at_false, is_over, either_is_over, granted_has, Plays}
use Rattle.running_guarded.proofs.GuardedSights.{may_begin, led_first, sees_once, sees_on, gave_up}
use Rattle.running_model.proofs.Questions.{some_asked, first_goes_on, ends_abort}
use Rattle.std.proofs.Common.{length}
use Rattle.running_guarded.proofs.guarded.Guarded.enter.Goals as goal

pub first-free-requires-clause-may : goal.first-free-requires-clause-may
first-free-requires-clause-may g c = may_begin c.args.seat.me.0

pub end-requires : goal.end-requires
end-requires g c = record { over = is_over mutex_model Call.Lock _ _ _ _ (MatchBool-at_true _ _ c.if-free.true (led_first _ c.args.seat.me.0 c.first-free.result.1.seat.me.0 c.first-free.ensures.tried)) }

pub returns-then-free-clause-played : goal.returns-then-free-clause-played
returns-then-free-clause-played g c = subst (λ s. Plays Call.Lock Answer.Success (Some HoldKind.Write) c.args.seat.me.0 s.me.0) (sym c.end.ensures.still)
    (MatchBool-at_true _ _ c.if-free.true (led_first _ c.args.seat.me.0 c.first-free.result.1.seat.me.0 c.first-free.ensures.tried))

pub returns-then-free-clause-has : goal.returns-then-free-clause-has
returns-then-free-clause-has g c = λ _. granted_has Call.Lock c.args.seat.me.0.tally.parties _ (returns-then-free-clause-played g c)

pub spin-soon-requires-clause-at : goal.spin-soon-requires-clause-at
spin-soon-requires-clause-at g c = (all_of c.args.seat.me.0.tally.parties, MatchBool-at_false _ _ c.if-free.false (led_first _ c.args.seat.me.0 c.first-free.result.1.seat.me.0 c.first-free.ensures.tried))

pub end-requires-then-soon : goal.end-requires-then-soon
end-requires-then-soon g c = let refused = MatchBool-at_false _ _ c.if-free.false (led_first _ c.args.seat.me.0 c.first-free.result.1.seat.me.0 c.first-free.ensures.tried) in
    record { over = is_over mutex_model Call.Lock _ _ _ _ (MatchBool-at_true _ _ c.if-soon.true (c.spin-soon.ensures.over (all_of c.args.seat.me.0.tally.parties) refused)) }

pub returns-then-soon-clause-played : goal.returns-then-soon-clause-played
returns-then-soon-clause-played g c = let refused = MatchBool-at_false _ _ c.if-free.false (led_first _ c.args.seat.me.0 c.first-free.result.1.seat.me.0 c.first-free.ensures.tried) in
    subst (λ s. Plays Call.Lock Answer.Success (Some HoldKind.Write) c.args.seat.me.0 s.me.0) (sym c.end-then-soon.ensures.still)
    (MatchBool-at_true _ _ c.if-soon.true (c.spin-soon.ensures.over (all_of c.args.seat.me.0.tally.parties) refused))

pub returns-then-soon-clause-has : goal.returns-then-soon-clause-has
returns-then-soon-clause-has g c = λ _. granted_has Call.Lock c.args.seat.me.0.tally.parties _ (returns-then-soon-clause-played g c)

pub ask_and_try-granted-requires-clause-at : goal.ask_and_try-granted-requires-clause-at
ask_and_try-granted-requires-clause-at g c = let refused = MatchBool-at_false _ _ c.if-free.false (led_first _ c.args.seat.me.0 c.first-free.result.1.seat.me.0 c.first-free.ensures.tried) in
    (all_of c.args.seat.me.0.tally.parties, MatchBool-at_false _ _ c.if-soon.false (c.spin-soon.ensures.over (all_of c.args.seat.me.0.tally.parties) refused))

pub end-requires-2 : goal.end-requires-2
end-requires-2 g c = let refused = MatchBool-at_false _ _ c.if-free.false (led_first _ c.args.seat.me.0 c.first-free.result.1.seat.me.0 c.first-free.ensures.tried) in
    let stood = MatchBool-at_false _ _ c.if-soon.false (c.spin-soon.ensures.over (all_of c.args.seat.me.0.tally.parties) refused) in
    record { over = either_is_over mutex_model c.ask_and_try-granted.result.0 Call.Lock _ _ _ (c.ask_and_try-granted.ensures.over (all_of c.args.seat.me.0.tally.parties) stood) }

pub returns-clause-played : goal.returns-clause-played
returns-clause-played g c = let refused = MatchBool-at_false _ _ c.if-free.false (led_first _ c.args.seat.me.0 c.first-free.result.1.seat.me.0 c.first-free.ensures.tried) in
    let stood = MatchBool-at_false _ _ c.if-soon.false (c.spin-soon.ensures.over (all_of c.args.seat.me.0.tally.parties) refused) in
    subst (λ s. MatchBool c.ask_and_try-granted.result.0 (Plays Call.Lock Answer.Success (Some HoldKind.Write) c.args.seat.me.0 s.me.0) (Plays Call.Lock Answer.Interrupted None c.args.seat.me.0 s.me.0)) (sym c.end-2.ensures.still)
    (c.ask_and_try-granted.ensures.over (all_of c.args.seat.me.0.tally.parties) stood)

pub returns-clause-has : goal.returns-clause-has
returns-clause-has g c = λ granted. granted_has Call.Lock c.args.seat.me.0.tally.parties _ (MatchBool-at_true _ _ granted (returns-clause-played g c))

pub returns-clause-entered : goal.returns-clause-entered
returns-clause-entered g c = let asked = c.ask_and_try-granted.ensures.asked in
    subst (λ s. MatchBool c.ask_and_try-granted.result.0 (Enters c.args.seat.me.0 s.me.0) (GivesUp 10001 g.W.Fn c.args.wait c.args.seat.me.0 s.me.0)) (sym c.end-2.ensures.still)
    (gave_up g.W.Fn c.args.wait _ _ _ _ (length asked.asked) (sees_on 1 10000 _ _ _ (sees_once _ _ (MatchBool-at_false _ _ c.if-free.false c.first-free.ensures.locked)) (MatchBool-at_false _ _ c.if-soon.false c.spin-soon.ensures.entered)) c.ask_and_try-granted.ensures.entered
    (λ no. (asked.looks no tt, some_asked _ c.word.result.shown IsLocked g.W.Fn c.args.wait (λ f. f ≡ c.args.wait) (λ f a r after good called. (g.met.W.Fn.1.step_stays _ _ _ _ called ∙ good, record { met = subst (λ x. g.W.Fn.post x a r) good ((g.met.W.FnMut.1.post_iff _ _ _).1 (after, called)) })) asked.asked 1 asked.asks, first_goes_on _ _ IsLocked g.W.Fn c.args.wait (λ f. f ≡ c.args.wait) (λ f a r after good called. (g.met.W.Fn.1.step_stays _ _ _ _ called ∙ good, record { met = subst (λ x. g.W.Fn.post x a r) good ((g.met.W.FnMut.1.post_iff _ _ _).1 (after, called)) })) asked.asked 1 c.args.wait _ asked.asks refl asked.led refl)))

pub returns-clause-aborted : goal.returns-clause-aborted
returns-clause-aborted g c = λ no. let asked = c.ask_and_try-granted.ensures.asked in ends_abort _ _ IsLocked g.W.Fn c.args.wait (λ f. f ≡ c.args.wait) (λ f a r after good called. (g.met.W.Fn.1.step_stays _ _ _ _ called ∙ good, record { met = subst (λ x. g.W.Fn.post x a r) good ((g.met.W.FnMut.1.post_iff _ _ _).1 (after, called)) })) asked.asked 1 c.args.wait _ asked.asks refl (asked.ends no) asked.led refl
