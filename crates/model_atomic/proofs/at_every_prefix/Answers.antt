use Rattle.model_atomic.proofs.Data.{keeps_atomic}
use Rattle.model_atomic.proofs.at_every_prefix.Goals as goal

pub returns : goal.returns
returns g c = λ v parties past is run. keeps_atomic g.T.AtomicInteger.arithmetic c.closed.ensures v parties past is run
