use Rattle.running_atomic.proofs.AtomicKeeps.{write_leaves}
use Rattle.running_atomic.proofs.calls.Atomic.leave_write.Goals as goal

pub returns-clause-left : goal.returns-clause-left
returns-clause-left g c = write_leaves _ _ _ c.args.turn.pass.now c.store.result.pass.now c.requires.may c.store.ensures.stepped.acted
