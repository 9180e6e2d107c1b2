use Rattle.running_rw_writer.proofs.AnswerNames.{arith, ◌+◌, ◌∙◌, MatchBool-at_true, MatchBool-at_false, spins_on, all_spun, tried_again}
use Rattle.running_rw_writer.proofs.RwLockWriterPreference.spin_to_write.Goals as goal

pub enter_or_mark-entered-requires-clause-at : goal.enter_or_mark-entered-requires-clause-at
enter_or_mark-entered-requires-clause-at g c = let w = c.requires.at in (c.loop-tries.tries + 1, w.0, spins_on c.loop-tries.tries w.0 _ c.loop-tries-test.true (c.loop-tries.invariant.at w.0 w.1))

pub returns-then-entered-clause-played : goal.returns-then-entered-clause-played
returns-then-entered-clause-played g c = λ done at. MatchBool-at_true _ _ c.if-entered.true (c.enter_or_mark-entered.ensures.played (c.loop-tries.tries + 1) done (spins_on c.loop-tries.tries done _ c.loop-tries-test.true (c.loop-tries.invariant.at done at)))

pub loop-tries-preserved : goal.loop-tries-preserved
loop-tries-preserved g c = record {
  same_borrow = c.enter_or_mark-entered.ensures.same_borrow ∙ c.loop-tries.invariant.same_borrow;
  tried = tried_again c.loop-tries.tries 1 _ _ _ c.loop-tries.invariant.tried (MatchBool-at_false _ _ c.if-entered.false c.enter_or_mark-entered.ensures.entered);
  at = λ done at. MatchBool-at_false _ _ c.if-entered.false (c.enter_or_mark-entered.ensures.played (c.loop-tries.tries + 1) done (spins_on c.loop-tries.tries done _ c.loop-tries-test.true (c.loop-tries.invariant.at done at)));
}

pub returns-clause-played : goal.returns-clause-played
returns-clause-played g c = λ done at. all_spun c.loop-tries.tries done _ (omega (arith, c.loop-tries-test.false, c.loop-tries.auto.tries-end)) (c.loop-tries.invariant.at done at)
