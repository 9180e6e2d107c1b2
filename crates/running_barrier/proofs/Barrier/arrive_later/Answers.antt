use Rattle.running_barrier.proofs.Names.{rules}
use Rattle.running_barrier.proofs.Barrier.arrive_later.Goals as goal

pub exchange-found-requires-clause-looked : goal.exchange-found-requires-clause-looked
exchange-found-requires-clause-looked g c = let looked = c.requires.looked in (looked.0, c.loop.invariant.looked looked.0 looked.1)

pub returns-then-found-seen-clause-joined : goal.returns-then-found-seen-clause-joined
returns-then-found-seen-clause-joined g c = λ done at. c.exchange-found.ensures.joined c.if-found-seen.true done (c.loop.invariant.looked done at)

pub loop-preserved : goal.loop-preserved
loop-preserved g c = record {
  same_borrow = search rules;
  stayed = search rules;
  room = search rules;
  last = search rules;
  looked = λ done at. c.exchange-found.ensures.again (search rules) done (c.loop.invariant.looked done at);
}
