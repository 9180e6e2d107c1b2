use Rattle.running_rw_writer.proofs.AnswerNames.{spun, ◌∙◌, fewest, tried_again}
use Rattle.running_rw_writer.proofs.RwLockWriterPreference.mark_or_enter.Goals as goal

pub set_mark-requires-clause-at : goal.set_mark-requires-clause-at
set_mark-requires-clause-at g c = let w = c.requires.at in (spun w.0, w.1, c.loop.invariant.at w.0 w.1 w.2)

pub returns-in-Ok-clause-played : goal.returns-in-Ok-clause-played
returns-in-Ok-clause-played g c = λ n done at. c.in-Ok.ensures.spins (spun n) done (c.loop.invariant.at n done at)

pub enter_if_free-requires-clause-at : goal.enter_if_free-requires-clause-at
enter_if_free-requires-clause-at g c = let w = c.requires.at in (spun w.0, w.1, c.in-Err.ensures.looks (spun w.0) w.1 (c.loop.invariant.at w.0 w.1 w.2))

pub returns-in-Ok-enter_if_free-clause-played : goal.returns-in-Ok-enter_if_free-clause-played
returns-in-Ok-enter_if_free-clause-played g c = λ n done at. c.in-Ok-enter_if_free.ensures.granted (spun n) done (c.in-Err.ensures.looks (spun n) done (c.loop.invariant.at n done at))

pub loop-preserved : goal.loop-preserved
loop-preserved g c = record {
  same_borrow = c.in-Err-enter_if_free.ensures.same_borrow_too ∙ c.in-Err.ensures.same_borrow_too ∙ c.loop.invariant.same_borrow;
  tried = tried_again 0 0 _ _ _ (fewest _ _ _ (tried_again 0 1 _ _ _ c.loop.invariant.tried c.in-Err.ensures.missed.tried)) c.in-Err-enter_if_free.ensures.refused.0;
  just = c.in-Err-enter_if_free.ensures.refused.1;
  at = λ n done at. c.in-Err-enter_if_free.ensures.goes_on (spun n) done (c.in-Err.ensures.looks (spun n) done (c.loop.invariant.at n done at));
}
