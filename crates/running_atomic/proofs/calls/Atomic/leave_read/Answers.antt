use Rattle.running_atomic.proofs.AtomicKeeps.{read_leaves}
use Rattle.running_atomic.proofs.calls.Atomic.leave_read.Goals as goal

pub returns-clause-left : goal.returns-clause-left
returns-clause-left g c = read_leaves _ _ _ _ c.args.turn.pass.now c.subtract-next.result.1.pass.now c.requires.may c.subtract-next.ensures.stepped.acted
