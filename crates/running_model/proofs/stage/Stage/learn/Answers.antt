use Rattle.running_model.proofs.Updates.{adds_nothing, learns}
use Rattle.running_model.proofs.stage.Stage.learn.Goals as goal

pub load-requires-clause-update : goal.load-requires-clause-update
load-requires-clause-update g c = learns _ _ _ _ (adds_nothing _ _ _ g.C.Tally.adds_up) _ _ _ g.C.Tally.adds_up _ _
