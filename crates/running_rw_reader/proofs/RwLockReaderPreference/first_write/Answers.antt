use Rattle.running_rw_reader.proofs.Names.{IfOk, IfErr, Beginning, Went, parties_of, rw_reader_model, ◌≢◌, subst}
use Rattle.running_rw_reader.proofs.RwLockReaderPreference.first_write.Goals as goal

pub returns-clause-went : goal.returns-clause-went
returns-clause-went g c = subst (λ p. IfOk c.try_to_write.result (λ next. Went rw_reader_model (Beginning g.L.Called.call) (parties_of p) 0 (parties_of next.pass.now))) c.begin_new-begun.ensures.still c.try_to_write.ensures.went

pub returns-clause-missed : goal.returns-clause-missed
returns-clause-missed g c = subst (λ p. IfErr c.try_to_write.result (λ missed. (missed.0 ≢ 0) × Went rw_reader_model (Beginning g.L.Called.call) (parties_of p) missed.0 (parties_of missed.1.pass.now))) c.begin_new-begun.ensures.still c.try_to_write.ensures.missed
