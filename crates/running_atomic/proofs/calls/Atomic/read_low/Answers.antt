use Rattle.running_atomic.proofs.AtomicKeeps.{reads_low}
use Rattle.running_atomic.proofs.calls.Atomic.read_low.Goals as goal

pub returns-clause-read : goal.returns-clause-read
returns-clause-read g c = reads_low _ _ _ _ c.args.turn.pass.now c.load.result.1.pass.now c.requires.may c.requires.on c.load.ensures.stepped.acted
