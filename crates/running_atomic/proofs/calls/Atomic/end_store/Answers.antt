use Rattle.running_atomic.proofs.AtomicKeeps.{ends_store}
use Rattle.running_atomic.proofs.calls.Atomic.end_store.Goals as goal

pub returns-clause-ended : goal.returns-clause-ended
returns-clause-ended g c = ends_store _ _ _ _ c.args.turn.pass.now c.store.result.pass.now c.requires.on c.requires.right c.requires.stores c.requires.written c.requires.puts c.store.ensures.stepped.acted
