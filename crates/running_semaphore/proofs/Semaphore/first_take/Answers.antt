use Rattle.running_semaphore.proofs.Names.{Beginning, parties_of, initial_of}
use Rattle.running_semaphore.proofs.SemaphorePlays.{may_take, looked, looked_again, took_one}
use Rattle.running_semaphore.proofs.SemaphoreTakes.{one_taken}
use Rattle.running_semaphore.proofs.Semaphore.first_take.Goals as goal

pub exchange-found-requires-clause-may : goal.exchange-found-requires-clause-may
exchange-found-requires-clause-may g c = let w = c.requires.comes in let one = one_taken _ _ _ c.taken.ensures.empty c.taken.ensures.open c.in-Some.is in may_take _ w.wanting c.first_look-seen.result.0 _ w.done _ one.0 one.1 (looked (initial_of c.args.self.now) (Beginning g.L.Called.call) c.first_look-seen.result.0 (parties_of c.args.pass.now) (parties_of c.first_look-seen.result.1.pass.now) c.first_look-seen.ensures.went w.wanting w.done w.comes)

pub returns-in_default-clause-goes_on : goal.returns-in_default-clause-goes_on
returns-in_default-clause-goes_on g c = λ wanting done comes. looked (initial_of c.args.self.now) (Beginning g.L.Called.call) c.first_look-seen.result.0 (parties_of c.args.pass.now) (parties_of c.first_look-seen.result.1.pass.now) c.first_look-seen.ensures.went wanting done comes

pub returns-then-found-seen-clause-granted : goal.returns-then-found-seen-clause-granted
returns-then-found-seen-clause-granted g c = λ wanting done comes. took_one _ wanting c.first_look-seen.result.0 _ done _ _ (one_taken _ _ _ c.taken.ensures.empty c.taken.ensures.open c.in-Some.is).0 c.if-found-seen.true (looked (initial_of c.args.self.now) (Beginning g.L.Called.call) c.first_look-seen.result.0 (parties_of c.args.pass.now) (parties_of c.first_look-seen.result.1.pass.now) c.first_look-seen.ensures.went wanting done comes) c.exchange-found.ensures.went

pub returns-else-found-seen-clause-goes_on : goal.returns-else-found-seen-clause-goes_on
returns-else-found-seen-clause-goes_on g c = λ wanting done comes. looked_again _ wanting c.first_look-seen.result.0 _ done _ _ (one_taken _ _ _ c.taken.ensures.empty c.taken.ensures.open c.in-Some.is).0 c.if-found-seen.false (looked (initial_of c.args.self.now) (Beginning g.L.Called.call) c.first_look-seen.result.0 (parties_of c.args.pass.now) (parties_of c.first_look-seen.result.1.pass.now) c.first_look-seen.ensures.went wanting done comes) c.exchange-found.ensures.went
