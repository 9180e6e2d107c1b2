use Rattle.model_semaphore.proofs.Laws.{keeps_semaphore}
use Rattle.model_semaphore.proofs.at_every_prefix.Goals as goal

pub returns : goal.returns
returns g c = λ z initial parties past fits run. keeps_semaphore z initial parties past fits run
