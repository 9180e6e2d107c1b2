use Rattle.model_once.proofs.Laws.{keeps_once}
use Rattle.model_once.proofs.at_every_prefix.Goals as goal

pub returns : goal.returns
returns g c = λ z parties past run. keeps_once z parties past run
