use Rattle.running_atomic.proofs.AtomicKeeps.{compares_high}
use Rattle.running_atomic.proofs.calls.Atomic.compare_high.Goals as goal

pub returns-clause-compared : goal.returns-clause-compared
returns-clause-compared g c = compares_high _ _ _ _ _ c.args.turn.pass.now c.load.result.1.pass.now c.requires.may c.requires.on c.requires.written c.requires.compares c.load.ensures.stepped.acted
