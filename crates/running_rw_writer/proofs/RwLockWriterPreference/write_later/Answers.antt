use Rattle.running_rw_writer.proofs.AnswerNames.{inl, refl}
use Rattle.running_rw_writer.proofs.RwLockWriterPreference.write_later.Goals as goal

pub returns-then-at_once-clause-asked : goal.returns-then-at_once-clause-asked
returns-then-at_once-clause-asked g c = (c.args.wait, inl (refl, refl))

pub returns-then-in_time-clause-asked : goal.returns-then-in_time-clause-asked
returns-then-in_time-clause-asked g c = (c.args.wait, inl (refl, refl))
