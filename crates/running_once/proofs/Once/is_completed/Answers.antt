use Rattle.running_once.proofs.Names.{rules}
use Rattle.running_once.proofs.OncePlays.{asked}
use Rattle.running_once.proofs.Once.is_completed.Goals as goal

pub returns-clause-played : goal.returns-clause-played
returns-clause-played g c = asked _ _ _ _ (search rules) c.look_once.ensures.went
