use Rattle.model_room.proofs.Runs.{each_keeps}
use Rattle.model_room.proofs.laws.at_every_prefix.Goals as goal

pub returns : goal.returns
returns g c = each_keeps g.T.AtomicInteger.arithmetic
