use Rattle.std.proofs.lemmas.Bool.{false≢true}
use Rattle.running_guarded.proofs.Names.{◌+◌, true, MatchBool, Locks, SeesLocked, WaitAction, Call, MutexPlace, mutex_model, spun, IsStanding, refl, sym, subst, ap, ◌∙◌, MatchBool-at_true, MatchBool-at_false}
use Rattle.running_guarded.proofs.GuardedSights.{sees_once, sees_on, enters_now, enters_later, ended, may_try, led_answered}
use Rattle.running_model.proofs.Questions.{one, more}
use Rattle.running_model.specs.Turns.{action_heard, seat_in}
use Rattle.running_guarded.proofs.guarded.Guarded.ask_and_try.Goals as goal

pub ask-answer-requires-clause-stands : goal.ask-answer-requires-clause-stands
ask-answer-requires-clause-stands g c = record { call = Call.Lock; place = MutexPlace.Lock (spun 10000); hold = _; done = c.requires.at.0; at = c.loop.invariant.at c.requires.at.0 c.requires.at.1; word = refl }

pub exchange-free-requires-clause-may : goal.exchange-free-requires-clause-may
exchange-free-requires-clause-may g c = may_try WaitAction.Continue c.requires.at.0 c.in-Continue.continued.seat.me.0
    (subst (λ s. IsStanding mutex_model Call.Lock MutexPlace.Lock 1 c.requires.at.0 s.me.0.tally.parties) (sym (sym (ap seat_in c.in-Continue.is) ∙ c.ask-answer.ensures.still)) (c.loop.invariant.at c.requires.at.0 c.requires.at.1))

pub returns-then-free-clause-over : goal.returns-then-free-clause-over
returns-then-free-clause-over g c = λ done stood. MatchBool-at_true _ _ c.if-free.true
    (led_answered _ WaitAction.Continue done c.in-Continue.continued.seat.me.0 c.exchange-free.result.1.seat.me.0 c.exchange-free.ensures.tried
    (subst (λ s. IsStanding mutex_model Call.Lock MutexPlace.Lock 1 done s.me.0.tally.parties) (sym (sym (ap seat_in c.in-Continue.is) ∙ c.ask-answer.ensures.still)) (c.loop.invariant.at done stood)))

pub returns-then-free-clause-asked : goal.returns-then-free-clause-asked
returns-then-free-clause-asked g c = c.loop.invariant.asked _ true _ (one _ _ _ _ _ _ _ _ _ _ _ (λ e. absurd (false≢true (sym e))) (λ e. absurd (false≢true (sym e))) c.ask-answer.ensures.asked)

pub returns-then-free-clause-entered : goal.returns-then-free-clause-entered
returns-then-free-clause-entered g c = enters_later _ _ _ _ c.loop.invariant.saw.seen (enters_now _ _ (subst (λ s. Locks s.me.0 c.exchange-free.result.1.seat.me.0) (sym (ap seat_in c.in-Continue.is) ∙ c.ask-answer.ensures.still) (MatchBool-at_true _ _ c.if-free.true c.exchange-free.ensures.locked)))

pub loop-preserved : goal.loop-preserved
loop-preserved g c = let still_locked = subst (λ s. SeesLocked s.me.0 c.exchange-free.result.1.seat.me.0) (sym (ap seat_in c.in-Continue.is) ∙ c.ask-answer.ensures.still) (MatchBool-at_false _ _ c.if-free.false c.exchange-free.ensures.locked) in record {
  same = (
    c.exchange-free.ensures.same.0 ∙ ap (λ s. s.table_id) (sym (ap seat_in c.in-Continue.is) ∙ c.ask-answer.ensures.still) ∙ c.loop.invariant.same.0,
    c.exchange-free.ensures.same.1 ∙ ap (λ s. s.id) (sym (ap seat_in c.in-Continue.is) ∙ c.ask-answer.ensures.still) ∙ c.loop.invariant.same.1,
  );
  no_slot = MatchBool-at_false _ _ c.if-free.false c.exchange-free.ensures.slot;
  saw = record { times = c.loop.invariant.saw.times + 1; seen = sees_on c.loop.invariant.saw.times 1 _ _ _ c.loop.invariant.saw.seen (sees_once c.loop.next.seat.me.0 c.exchange-free.result.1.seat.me.0 still_locked) };
  may = c.ask-answer.ensures.may_again;
  asked = λ after granted now rest. c.loop.invariant.asked after granted now (more _ _ _ _ _ _ _ _ _ _ _ _ _ _ (ap action_heard c.in-Continue.is) refl (λ _. (sees_once c.loop.next.seat.me.0 c.exchange-free.result.1.seat.me.0 still_locked).count) c.ask-answer.ensures.asked rest);
  at = λ done stood. MatchBool-at_false _ _ c.if-free.false
      (led_answered _ WaitAction.Continue done c.in-Continue.continued.seat.me.0 c.exchange-free.result.1.seat.me.0 c.exchange-free.ensures.tried
      (subst (λ s. IsStanding mutex_model Call.Lock MutexPlace.Lock 1 done s.me.0.tally.parties) (sym (sym (ap seat_in c.in-Continue.is) ∙ c.ask-answer.ensures.still)) (c.loop.invariant.at done stood)));
}

pub exchange-done-requires-clause-may : goal.exchange-done-requires-clause-may
exchange-done-requires-clause-may g c = may_try WaitAction.Abort c.requires.at.0 c.in-Abort.aborted.seat.me.0
    (subst (λ s. IsStanding mutex_model Call.Lock MutexPlace.Lock 1 c.requires.at.0 s.me.0.tally.parties) (sym (sym (ap seat_in c.in-Abort.is) ∙ c.ask-answer.ensures.still)) (c.loop.invariant.at c.requires.at.0 c.requires.at.1))

pub returns-in-Abort-clause-entered : goal.returns-in-Abort-clause-entered
returns-in-Abort-clause-entered g c = ended _ _ _ _ c.loop.invariant.saw (subst (λ s. MatchBool c.exchange-done.result.0 (Locks s.me.0 c.exchange-done.result.1.seat.me.0) (SeesLocked s.me.0 c.exchange-done.result.1.seat.me.0)) (sym (ap seat_in c.in-Abort.is) ∙ c.ask-answer.ensures.still) c.exchange-done.ensures.locked)

pub returns-in-Abort-clause-over : goal.returns-in-Abort-clause-over
returns-in-Abort-clause-over g c = λ done stood. led_answered _ WaitAction.Abort done c.in-Abort.aborted.seat.me.0 c.exchange-done.result.1.seat.me.0 c.exchange-done.ensures.tried
    (subst (λ s. IsStanding mutex_model Call.Lock MutexPlace.Lock 1 done s.me.0.tally.parties) (sym (sym (ap seat_in c.in-Abort.is) ∙ c.ask-answer.ensures.still)) (c.loop.invariant.at done stood))

pub returns-in-Abort-clause-asked : goal.returns-in-Abort-clause-asked
returns-in-Abort-clause-asked g c = c.loop.invariant.asked _ _ _ (one _ _ _ _ _ _ _ _ _ _ _ (λ _. ap action_heard c.in-Abort.is) (λ no _. (sees_once c.loop.next.seat.me.0 c.exchange-done.result.1.seat.me.0 (subst (λ s. SeesLocked s.me.0 c.exchange-done.result.1.seat.me.0) (sym (ap seat_in c.in-Abort.is) ∙ c.ask-answer.ensures.still) (MatchBool-at_false _ _ no c.exchange-done.ensures.locked))).count) c.ask-answer.ensures.asked)
