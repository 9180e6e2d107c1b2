use Rattle.running_model.proofs.Opening.{opens}
use Rattle.running_model.proofs.stage.Stage.new.Goals as goal

pub new-requires-clause-rule : goal.new-requires-clause-rule
new-requires-clause-rule g c = opens _ _ _ _ _ _ _ (g.M.Script.lawful _) c.requires.opening c.requires.rule (g.met.C.Counts.opens _ _ c.requires.rule)
