use Rattle.running_guarded.proofs.Names.{◌∙◌, arith, MatchBool-at_true, MatchBool-at_false}
use Rattle.running_guarded.proofs.GuardedSights.{sees_once, sees_on, may_spin, led_spinning, stands_at_last}
use Rattle.running_guarded.proofs.guarded.Guarded.spin.Goals as goal

pub exchange-free-requires-clause-may : goal.exchange-free-requires-clause-may
exchange-free-requires-clause-may g c = may_spin c.loop-tries.tries c.requires.at.0 c.loop-tries.next.seat.me.0 c.loop-tries-test.true (c.loop-tries.invariant.at c.requires.at.0 c.requires.at.1)

pub returns-then-free-clause-over : goal.returns-then-free-clause-over
returns-then-free-clause-over g c =
    λ done refused. MatchBool-at_true _ _ c.if-free.true (led_spinning _ c.loop-tries.tries done c.loop-tries.next.seat.me.0 c.exchange-free.result.1.seat.me.0 c.loop-tries-test.true c.exchange-free.ensures.tried (c.loop-tries.invariant.at done refused))

pub loop-tries-preserved : goal.loop-tries-preserved
loop-tries-preserved g c = record {
  same = (c.exchange-free.ensures.same.0 ∙ c.loop-tries.invariant.same.0, c.exchange-free.ensures.same.1 ∙ c.loop-tries.invariant.same.1);
  no_slot = MatchBool-at_false _ _ c.if-free.false c.exchange-free.ensures.slot;
  saw = sees_on c.loop-tries.tries 1 _ _ _ c.loop-tries.invariant.saw (sees_once c.loop-tries.next.seat.me.0 c.exchange-free.result.1.seat.me.0 (MatchBool-at_false _ _ c.if-free.false c.exchange-free.ensures.locked));
  at = λ done refused.
      MatchBool-at_false _ _ c.if-free.false (led_spinning _ c.loop-tries.tries done c.loop-tries.next.seat.me.0 c.exchange-free.result.1.seat.me.0 c.loop-tries-test.true c.exchange-free.ensures.tried (c.loop-tries.invariant.at done refused));
}

pub returns-clause-over : goal.returns-clause-over
returns-clause-over g c = λ done refused. stands_at_last c.loop-tries.tries done c.loop-tries.next.seat.me.0 (omega (arith, c.loop-tries-test.false, c.loop-tries.auto.tries-end)) (c.loop-tries.invariant.at done refused)
