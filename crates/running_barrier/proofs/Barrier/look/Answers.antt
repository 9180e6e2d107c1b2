use Rattle.running_barrier.proofs.Names.{waiters_fit}
use Rattle.running_barrier.proofs.BarrierKeeps.{loads}
use Rattle.running_barrier.proofs.Barrier.look.Goals as goal

pub returns-clause-told : goal.returns-clause-told
returns-clause-told g c = loads _ (waiters_fit _) _ _ c.args.turn.pass.now c.load.result.1.pass.now c.requires.may c.load.ensures.stepped.acted
