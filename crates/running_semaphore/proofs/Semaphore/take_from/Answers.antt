use Rattle.running_semaphore.proofs.Names.{◌∙◌, seen_twice, missed_once}
use Rattle.running_semaphore.proofs.SemaphorePlays.{may_take, looked_again, took_one, found_none}
use Rattle.running_semaphore.proofs.SemaphoreTakes.{none_left, one_taken, saw_again, takes_one}
use Rattle.running_semaphore.proofs.Semaphore.take_from.Goals as goal

pub returns-in_default-clause-wanted : goal.returns-in_default-clause-wanted
returns-in_default-clause-wanted g c = λ wanting done at. found_none _ wanting c.loop.last done _ (none_left _ _ c.taken.ensures.open c.in_default.not-Some) (c.loop.invariant.at wanting done at)

pub exchange-found-requires-clause-may : goal.exchange-found-requires-clause-may
exchange-found-requires-clause-may g c = let w = c.requires.at in let one = one_taken _ _ _ c.taken.ensures.empty c.taken.ensures.open c.in-Some-taken.is in may_take _ w.0 c.loop.last _ w.1 _ one.0 one.1 (c.loop.invariant.at w.0 w.1 w.2)

pub returns-then-found-last-clause-takes : goal.returns-then-found-last-clause-takes
returns-then-found-last-clause-takes g c = λ p saw. takes_one _ p c.loop.next.pass.now c.exchange-found.result.1.pass.now (c.loop.invariant.saw p saw) (one_taken _ _ _ c.taken.ensures.empty c.taken.ensures.open c.in-Some-taken.is).0 (c.exchange-found.ensures.done c.if-found-last.true)

pub returns-then-found-last-clause-wanted : goal.returns-then-found-last-clause-wanted
returns-then-found-last-clause-wanted g c = λ wanting done at. took_one _ wanting c.loop.last _ done _ _ (one_taken _ _ _ c.taken.ensures.empty c.taken.ensures.open c.in-Some-taken.is).0 c.if-found-last.true (c.loop.invariant.at wanting done at) c.exchange-found.ensures.went

pub loop-preserved : goal.loop-preserved
loop-preserved g c = record {
  same_borrow = c.exchange-found.ensures.same_borrow ∙ c.loop.invariant.same_borrow;
  stayed = seen_twice c.args.turn.pass.now c.loop.next.pass.now c.exchange-found.result.1.pass.now c.loop.invariant.stayed (missed_once _ _ c.loop.next.pass.now c.exchange-found.result.1.pass.now (c.exchange-found.ensures.failed c.if-found-last.false));
  saw = λ p saw. saw_again _ _ p c.loop.next.pass.now c.exchange-found.result.1.pass.now (c.loop.invariant.saw p saw) (c.exchange-found.ensures.failed c.if-found-last.false) c.if-found-last.false c.exchange-found.ensures.exact;
  at = λ wanting done at. looked_again _ wanting c.loop.last _ done _ _ (one_taken _ _ _ c.taken.ensures.empty c.taken.ensures.open c.in-Some-taken.is).0 c.if-found-last.false (c.loop.invariant.at wanting done at) c.exchange-found.ensures.went;
}
