use Rattle.running_atomic.proofs.Names.{Call, Beginning, Went, Pass, parties_of, key_of, subst, atomic_model, PlayedAtomic}
use Rattle.running_atomic.proofs.AtomicPlays.{may_look_first}
use Rattle.running_atomic.proofs.calls.Atomic.first_look.Goals as goal

pub look-requires-clause-may : goal.look-requires-clause-may
look-requires-clause-may g c κs within = may_look_first _ _ _

pub returns-clause-went : goal.returns-clause-went
returns-clause-went g c = subst (λ (p : Pass (PlayedAtomic g.row.T.Denot)). Went (atomic_model g.T.AtomicInteger.arithmetic (key_of c.args.self.now.stage)) (Beginning Call.Load) (parties_of p) c.look.result.0 (parties_of c.look.result.1.pass.now)) c.begin_new-begun.ensures.still c.look.ensures.went
