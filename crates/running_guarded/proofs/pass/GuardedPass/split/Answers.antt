use Rattle.running_guarded.proofs.Names.{rules, splits_weight}
use Rattle.running_guarded.proofs.pass.GuardedPass.split.Goals as goal

pub returns-clause-weights : goal.returns-clause-weights
returns-clause-weights g c = search (rules, splits_weight)
