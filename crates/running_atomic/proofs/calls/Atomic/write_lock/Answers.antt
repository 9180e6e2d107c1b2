use Rattle.running_atomic.proofs.Names.{parties_of}
use Rattle.running_atomic.specs.Names.{all_of}
use Rattle.running_atomic.proofs.AtomicPlays.{takes_first, misses_first}
use Rattle.running_atomic.proofs.calls.Atomic.write_lock.Goals as goal

pub returns-then-found-eq0-clause-next : goal.returns-then-found-eq0-clause-next
returns-then-found-eq0-clause-next g c = takes_first _ _ _ _ _ _ c.requires.writes c.requires.values c.if-found-eq0.true c.first_enter-found.ensures.went

pub write_later-requires-clause-at : goal.write_later-requires-clause-at
write_later-requires-clause-at g c κs within = (all_of (parties_of c.args.pass.now), misses_first _ _ _ _ _ _ c.requires.writes c.requires.values c.if-found-eq0.false c.first_enter-found.ensures.went)

pub returns-else-found-eq0-clause-next : goal.returns-else-found-eq0-clause-next
returns-else-found-eq0-clause-next g c = c.write_later.ensures.next _ (misses_first _ _ _ _ _ _ c.requires.writes c.requires.values c.if-found-eq0.false c.first_enter-found.ensures.went)
