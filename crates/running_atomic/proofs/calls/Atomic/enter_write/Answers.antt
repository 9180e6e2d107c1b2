use Rattle.running_atomic.proofs.AtomicKeeps.{write_enters}
use Rattle.running_atomic.proofs.calls.Atomic.enter_write.Goals as goal

pub returns-clause-tried : goal.returns-clause-tried
returns-clause-tried g c = write_enters _ _ _ _ c.args.turn.pass.now c.exchange.result.1.pass.now c.requires.may c.exchange.ensures.stepped.acted
