use Rattle.running_rw_writer.proofs.AnswerNames.{may_write_once}
use Rattle.running_rw_writer.proofs.RwLockWriterPreference.first_write.Goals as goal

pub come_to_write-requires-clause-may : goal.come_to_write-requires-clause-may
come_to_write-requires-clause-may g c = may_write_once _
