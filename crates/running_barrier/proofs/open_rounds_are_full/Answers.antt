use Rattle.running_barrier.proofs.BarrierKeeps.{open_rounds_are_full}
use Rattle.running_barrier.proofs.open_rounds_are_full.Goals as goal

pub returns : goal.returns
returns g = open_rounds_are_full
