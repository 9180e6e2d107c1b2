use Rattle.running_condvar.proofs.CondKeeps.{count_is_inside}
use Rattle.running_condvar.proofs.count_is_those_inside.Goals as goal

pub returns : goal.returns
returns c = count_is_inside
