use Rattle.running_semaphore.proofs.Names.{Beginning, Went, parties_of, semaphore_model, subst, initial_of}
use Rattle.running_semaphore.proofs.Semaphore.first_look.Goals as goal

pub returns-clause-went : goal.returns-clause-went
returns-clause-went g c = subst (λ p. Went (semaphore_model (initial_of c.args.self.now)) (Beginning g.L.Called.call) (parties_of p) c.look.result.0 (parties_of c.look.result.1.pass.now)) c.begin_new-begun.ensures.still c.look.ensures.went
