use Rattle.model_rw_writer.proofs.Causes.{keeps_rw_writer}
use Rattle.model_rw_writer.proofs.at_every_prefix.Goals as goal

pub returns : goal.returns
returns g c = λ z parties past run. keeps_rw_writer z parties past run
