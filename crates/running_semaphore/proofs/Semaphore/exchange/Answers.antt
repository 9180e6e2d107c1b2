use Rattle.running_semaphore.proofs.Names.{Going, view, arith}
use Rattle.running_semaphore.proofs.SemaphoreKeeps.{takes, misses, exchanged_there}
use Rattle.running_semaphore.proofs.Semaphore.exchange.Goals as goal

pub returns-clause-done : goal.returns-clause-done
returns-clause-done g c = λ hit. (c.exchange.ensures.same, takes _ _ _ _ _ _ _ _ c.requires.may c.exchange.ensures.stepped.acted.told hit)

pub returns-clause-failed : goal.returns-clause-failed
returns-clause-failed g c = λ miss. (c.exchange.ensures.same, misses _ _ _ _ _ _ _ _ c.requires.may c.exchange.ensures.stepped.acted.told miss)

pub returns-clause-exact : goal.returns-clause-exact
returns-clause-exact g c = λ whole. (exchanged_there _ (omega arith) c.args.seen c.args.rest Going (view c.args.turn.pass.now) _ c.requires.may c.exchange.ensures.stepped.acted.share whole).value_is
