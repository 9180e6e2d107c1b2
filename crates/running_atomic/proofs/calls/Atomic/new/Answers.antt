use Rattle.running_atomic.proofs.Names.{refl}
use Rattle.running_atomic.proofs.calls.Atomic.new.Goals as goal

pub new-requires-clause-opening : goal.new-requires-clause-opening
new-requires-clause-opening g c = (refl, (c.to_words-low.ensures.low, (c.to_words-low.ensures.high, tt)))
