use Rattle.running_atomic.proofs.AtomicKeeps.{ends_load}
use Rattle.running_atomic.proofs.calls.Atomic.end_load.Goals as goal

pub returns-clause-ended : goal.returns-clause-ended
returns-clause-ended g c = ends_load _ _ _ _ c.args.turn.pass.now c.load.result.1.pass.now c.requires.may c.requires.on c.requires.loads.1 c.load.ensures.stepped.acted
