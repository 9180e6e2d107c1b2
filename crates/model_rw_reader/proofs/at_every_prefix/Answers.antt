use Rattle.model_rw_reader.proofs.AnswerLaws.{keeps_rw_reader}
use Rattle.model_rw_reader.proofs.at_every_prefix.Goals as goal

pub returns : goal.returns
returns g c = λ z parties past run. keeps_rw_reader z parties past run
