use Rattle.running_rw_writer.proofs.AnswerNames.{grants_are_of_a_run}
use Rattle.running_rw_writer.proofs.grants_are_of_a_run.Goals as goal

pub returns : goal.returns
returns c = grants_are_of_a_run
