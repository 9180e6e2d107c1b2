use Rattle.running_atomic.proofs.AtomicKeeps.{read_enters}
use Rattle.running_atomic.proofs.calls.Atomic.enter_read.Goals as goal

pub returns-clause-tried : goal.returns-clause-tried
returns-clause-tried g c = read_enters _ _ _ _ _ _ c.args.turn.pass.now c.exchange.result.1.pass.now c.requires.may c.requires.room c.requires.next c.exchange.ensures.stepped.acted
