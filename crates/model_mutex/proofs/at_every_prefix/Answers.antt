use Rattle.model_mutex.proofs.Laws.{keeps_mutex}
use Rattle.model_mutex.proofs.at_every_prefix.Goals as goal

pub returns : goal.returns
returns g c = λ z parties past run. keeps_mutex z parties past run
