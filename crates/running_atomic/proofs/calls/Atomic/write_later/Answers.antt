use Rattle.running_atomic.proofs.Names.{◌∙◌}
use Rattle.running_atomic.proofs.AtomicPlays.{may_take_again, takes_again, misses_again}
use Rattle.running_atomic.proofs.OverCalls.{not_writing, still_on}
use Rattle.running_atomic.proofs.calls.Atomic.write_later.Goals as goal

pub enter_write-found-requires-clause-may : goal.enter_write-found-requires-clause-may
enter_write-found-requires-clause-may g c κs within = may_take_again _ _ _ _ _ (c.loop.invariant.at c.requires.at.0 c.requires.at.1)

pub returns-then-found-eq0-clause-next : goal.returns-then-found-eq0-clause-next
returns-then-found-eq0-clause-next g c = λ done at. takes_again _ _ _ _ _ _ _ c.requires.writes c.if-found-eq0.true (c.loop.invariant.at done at) c.enter_write-found.ensures.went

pub loop-preserved : goal.loop-preserved
loop-preserved g c = record {
  same_borrow = c.enter_write-found.ensures.same_borrow ∙ c.loop.invariant.same_borrow;
  still = still_on c.args.turn.pass.now c.loop.next.pass.now c.enter_write-found.result.1.pass.now c.loop.invariant.still (not_writing c.loop.next.pass.now c.enter_write-found.result.1.pass.now _ c.if-found-eq0.false c.enter_write-found.ensures.same c.enter_write-found.ensures.tried);
  at = λ done at. misses_again _ _ _ _ _ _ _ c.if-found-eq0.false (c.loop.invariant.at done at) c.enter_write-found.ensures.went;
}
