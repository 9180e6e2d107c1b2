use Rattle.running_rw_writer.proofs.AnswerNames.{None, Call, RwWriterPlace}
use Rattle.running_rw_writer.proofs.RwLockWriterPreference.load_count.Goals as goal

pub returns-clause-unchanged : goal.returns-clause-unchanged
returns-clause-unchanged g c = let w = c.requires.at in c.load.ensures.stepped.acted.told Call.WriteLock (RwWriterPlace.LoadCounter w.0) None w.1 w.2
