use Rattle.running_atomic.proofs.AtomicKeeps.{settles}
use Rattle.running_atomic.proofs.calls.Atomic.settle.Goals as goal

pub returns-clause-settled : goal.returns-clause-settled
returns-clause-settled g c = settles _ _ _ _ c.learn.ensures.learned
