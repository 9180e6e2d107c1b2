use Rattle.running_rw_writer.proofs.AnswerNames.{none_beside}
use Rattle.running_rw_writer.proofs.no_hold_beside_the_writer.Goals as goal

pub returns : goal.returns
returns c = none_beside
