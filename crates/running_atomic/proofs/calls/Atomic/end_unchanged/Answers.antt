use Rattle.running_atomic.proofs.AtomicKeeps.{ends_unchanged}
use Rattle.running_atomic.proofs.calls.Atomic.end_unchanged.Goals as goal

pub returns-clause-ended : goal.returns-clause-ended
returns-clause-ended g c = ends_unchanged _ _ _ _ c.args.turn.pass.now c.load-next.result.1.pass.now c.requires.on c.requires.again c.load-next.ensures.stepped.acted
