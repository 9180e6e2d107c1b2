use Rattle.running_barrier.proofs.Names.{Call, Beginning, Went, parties_of, barrier_model, subst, waiters_of}
use Rattle.running_barrier.proofs.BarrierPlays.{may_look}
use Rattle.running_barrier.proofs.Barrier.first_look.Goals as goal

pub look-requires-clause-may : goal.look-requires-clause-may
look-requires-clause-may g c = may_look _ _

pub returns-clause-went : goal.returns-clause-went
returns-clause-went g c = subst (λ p. Went (barrier_model (waiters_of c.args.self.now)) (Beginning Call.Wait) (parties_of p) c.look.result.0 (parties_of c.look.result.1.pass.now)) c.begin_new-begun.ensures.still c.look.ensures.went
