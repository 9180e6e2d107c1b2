use Rattle.model_lazy.proofs.Laws.{keeps_lazy}
use Rattle.model_lazy.proofs.at_every_prefix.Goals as goal

pub returns : goal.returns
returns g c = λ z v parties past run. keeps_lazy z v parties past run
