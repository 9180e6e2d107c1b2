use Rattle.running_barrier.proofs.Names.{waiters_fit}
use Rattle.running_barrier.proofs.BarrierKeeps.{exchanges}
use Rattle.running_barrier.proofs.BarrierPlays.{may_arrive, has_joined, looked_again}
use Rattle.running_barrier.proofs.Barrier.exchange.Goals as goal

pub exchange-requires-clause-may : goal.exchange-requires-clause-may
exchange-requires-clause-may g c = may_arrive _ _ _ c.requires.looked.0 _ c.requires.next c.requires.looked.1

pub returns-clause-told : goal.returns-clause-told
returns-clause-told g c = exchanges _ (waiters_fit _) _ _ _ _ c.args.turn.pass.now c.exchange.result.1.pass.now (may_arrive _ _ _ c.requires.looked.0 _ c.requires.next c.requires.looked.1) c.requires.next.room c.exchange.ensures.stepped.acted

pub returns-clause-joined : goal.returns-clause-joined
returns-clause-joined g c = λ hit done at. has_joined _ _ _ done _ _ c.requires.next.room hit at c.exchange.ensures.stepped.went

pub returns-clause-again : goal.returns-clause-again
returns-clause-again g c = λ miss done at. looked_again _ _ _ done _ _ c.requires.next.room miss at c.exchange.ensures.stepped.went
