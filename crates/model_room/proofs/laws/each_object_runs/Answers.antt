use Rattle.model_room.proofs.Runs.{each_runs}
use Rattle.model_room.proofs.laws.each_object_runs.Goals as goal

pub returns : goal.returns
returns g c = each_runs g.T.AtomicInteger.arithmetic
