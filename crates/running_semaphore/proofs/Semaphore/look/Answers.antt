use Rattle.running_semaphore.proofs.Names.{view, arith}
use Rattle.running_semaphore.proofs.SemaphoreKeeps.{loaded_there}
use Rattle.running_semaphore.proofs.Semaphore.look.Goals as goal

pub returns-clause-exact : goal.returns-clause-exact
returns-clause-exact g c = λ whole. (loaded_there _ (omega arith) _ (view c.args.turn.pass.now) _ c.requires.may c.load.ensures.stepped.acted.share whole).value_is
