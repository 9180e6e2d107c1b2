use Rattle.running_closures.proofs.Covered.{none_sleeps_uncounted}
use Rattle.running_closures.proofs.sleepers.none_sleeps_uncounted.Goals as goal

pub returns : goal.returns
returns c = none_sleeps_uncounted
