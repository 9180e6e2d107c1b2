use Rattle.running_model.proofs.Names.{◌+◌, ◌∙◌, arith, spun}
use Rattle.running_model.proofs.Attempts.{seen_twice, still_so, moved_later}
use Rattle.running_model.proofs.Patience.{spins_on}
use Rattle.running_model.proofs.tries.spin.Goals as goal

pub attempt-requires-clause-comes : goal.attempt-requires-clause-comes
attempt-requires-clause-comes g c =
    record {
      patience = spun (c.loop-tries.tries + 1);
      done = c.requires.at.0;
      comes = spins_on _ _ _ c.loop-tries.tries _ _ _ c.loop-tries-test.true (c.loop-tries.invariant.at c.requires.at.0 c.requires.at.1);
    }

pub returns-in-Ok-clause-granted : goal.returns-in-Ok-clause-granted
returns-in-Ok-clause-granted g c = λ done refused. c.in-Ok.ensures.granted (spun (c.loop-tries.tries + 1)) done (spins_on _ _ _ c.loop-tries.tries _ _ _ c.loop-tries-test.true (c.loop-tries.invariant.at done refused))

pub returns-in-Ok-clause-moved : goal.returns-in-Ok-clause-moved
returns-in-Ok-clause-moved g c = moved_later g.B.Attempt.moves c.args.turn.pass.now c.loop-tries.next.pass.now c.in-Ok.granted.pass.now c.loop-tries.invariant.stayed c.in-Ok.ensures.moved

pub loop-tries-preserved : goal.loop-tries-preserved
loop-tries-preserved g c = record {
  same_borrow = c.in-Err.ensures.same_borrow_too ∙ c.loop-tries.invariant.same_borrow;
  own = c.in-Err.ensures.refused.stayed.same.0 ∙ c.loop-tries.invariant.own;
  stayed = seen_twice c.args.turn.pass.now c.loop-tries.next.pass.now c.in-Err.again.pass.now c.loop-tries.invariant.stayed c.in-Err.ensures.refused.stayed;
  more = omega (arith, c.loop-tries.invariant.more, c.in-Err.ensures.refused.looked.more);
  last = c.in-Err.ensures.refused.looked.refusing.0;
  refusing = c.in-Err.ensures.refused.looked.refusing.1;
  once = λ looks_once. omega (arith, c.loop-tries.invariant.once looks_once, c.in-Err.ensures.once (still_so g.B.Attempt.looks_once c.args.turn.pass.now c.loop-tries.next.pass.now c.loop-tries.invariant.stayed looks_once));
  at = λ done refused. c.in-Err.ensures.failed (spun (c.loop-tries.tries + 1)) done (spins_on _ _ _ c.loop-tries.tries _ _ _ c.loop-tries-test.true (c.loop-tries.invariant.at done refused));
}
