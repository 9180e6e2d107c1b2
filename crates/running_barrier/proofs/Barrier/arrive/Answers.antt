use Rattle.running_barrier.proofs.Names.{rules}
use Rattle.running_barrier.proofs.Barrier.arrive.Goals as goal

pub returns-then-found-seen-clause-joined : goal.returns-then-found-seen-clause-joined
returns-then-found-seen-clause-joined g c = c.exchange-found.ensures.joined c.if-found-seen.true

pub arrive_later-requires-clause-looked : goal.arrive_later-requires-clause-looked
arrive_later-requires-clause-looked g c = let looked = c.requires.looked in (looked.0, c.exchange-found.ensures.again (search rules) looked.0 looked.1)

pub returns-clause-joined : goal.returns-clause-joined
returns-clause-joined g c = λ done at. c.arrive_later.ensures.joined done (c.exchange-found.ensures.again (search rules) done at)
