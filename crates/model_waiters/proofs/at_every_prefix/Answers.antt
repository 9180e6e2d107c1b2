use Rattle.model_waiters.proofs.Laws.{keeps_waiters}
use Rattle.model_waiters.proofs.at_every_prefix.Goals as goal

pub returns : goal.returns
returns g c = λ z parties past run. keeps_waiters z parties past run
