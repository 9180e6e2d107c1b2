use Rattle.running_rw_writer.proofs.AnswerNames.{None, RwWriterPlace}
use Rattle.running_rw_writer.proofs.RwLockWriterPreference.count_up.Goals as goal

pub returns-clause-unchanged : goal.returns-clause-unchanged
returns-clause-unchanged g c = let w = c.requires.at in c.add-next.ensures.stepped.acted.told w.1.call (RwWriterPlace.Count w.0) None w.1.done w.1.at
