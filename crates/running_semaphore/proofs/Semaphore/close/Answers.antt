use Rattle.running_semaphore.proofs.Names.{parties_of, counts_of, arith}
use Rattle.running_semaphore.proofs.SemaphoreKeeps.{closed_there}
use Rattle.running_semaphore.proofs.Semaphore.close.Goals as goal

pub returns-clause-exact : goal.returns-clause-exact
returns-clause-exact g c = λ whole. (closed_there _ (omega arith) (counts_of c.args.pass) (parties_of c.args.pass) _ (c.close.ensures.exact whole)).value_is
