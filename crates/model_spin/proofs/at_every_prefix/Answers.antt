use Rattle.model_spin.proofs.Laws.{keeps_spin}
use Rattle.model_spin.proofs.at_every_prefix.Goals as goal

pub returns : goal.returns
returns g c = λ z parties past run. keeps_spin z parties past run
