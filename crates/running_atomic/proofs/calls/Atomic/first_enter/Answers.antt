use Rattle.running_atomic.proofs.Names.{Beginning, Went, Pass, parties_of, key_of, subst, atomic_model, PlayedAtomic}
use Rattle.running_atomic.proofs.calls.Atomic.first_enter.Goals as goal

pub returns-clause-went : goal.returns-clause-went
returns-clause-went g c = subst (λ (p : Pass (PlayedAtomic g.row.T.Denot)). Went (atomic_model g.T.AtomicInteger.arithmetic (key_of c.args.self.now.stage)) (Beginning g.L.Called.call) (parties_of p) c.enter_write.result.0 (parties_of c.enter_write.result.1.pass.now)) c.begin_new-begun.ensures.still c.enter_write.ensures.went
