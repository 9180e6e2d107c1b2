use Rattle.model_condvar.proofs.Laws.{keeps_condvar}
use Rattle.model_condvar.proofs.at_every_prefix.Goals as goal

pub returns : goal.returns
returns g c = λ z parties past run. keeps_condvar z parties past run
