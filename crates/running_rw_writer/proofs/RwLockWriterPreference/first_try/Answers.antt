use Rattle.running_rw_writer.proofs.AnswerNames.{Pass, all_of, spun, parties_of, subst, PlayedRwWriter, WriteGoes, WriteIsGranted, write_begins}
use Rattle.running_rw_writer.proofs.Names.{write_refused}
use Rattle.running_rw_writer.proofs.RwLockWriterPreference.first_try.Goals as goal

pub look_to_write-seen-requires-clause-comes : goal.look_to_write-seen-requires-clause-comes
look_to_write-seen-requires-clause-comes g c = (spun 0, all_of (parties_of c.begin_new-begun.result.pass.now), write_begins _)

pub enter_if_free-requires-clause-at : goal.enter_if_free-requires-clause-at
enter_if_free-requires-clause-at g c = (spun 0, all_of (parties_of c.begin_new-begun.result.pass.now), c.look_to_write-seen.ensures.looked (spun 0) _ (write_begins _))

pub returns-in-Ok-clause-granted : goal.returns-in-Ok-clause-granted
returns-in-Ok-clause-granted g c = subst (λ (p : Pass PlayedRwWriter). WriteIsGranted (all_of (parties_of p)) (parties_of c.in-Ok.entered.pass.now)) c.begin_new-begun.ensures.still (c.in-Ok.ensures.granted (spun 0) _ (c.look_to_write-seen.ensures.looked (spun 0) _ (write_begins _)))

pub returns-in-Err-clause-goes_on : goal.returns-in-Err-clause-goes_on
returns-in-Err-clause-goes_on g c = subst (λ (p : Pass PlayedRwWriter). WriteGoes (write_refused (spun 0) c.in-Err.refused.0) (all_of (parties_of p)) (parties_of c.in-Err.refused.1.pass.now)) c.begin_new-begun.ensures.still (c.in-Err.ensures.goes_on (spun 0) _ (c.look_to_write-seen.ensures.looked (spun 0) _ (write_begins _)))
