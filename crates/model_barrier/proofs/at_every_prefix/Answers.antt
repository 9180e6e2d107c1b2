use Rattle.model_barrier.proofs.Laws.{keeps_barrier}
use Rattle.model_barrier.proofs.at_every_prefix.Goals as goal

pub returns : goal.returns
returns g c = λ z n parties past fits run. keeps_barrier z n parties past fits run
