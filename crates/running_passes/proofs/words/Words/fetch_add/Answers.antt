use Rattle.running_passes.proofs.Steps.{steps}
use Rattle.running_passes.proofs.words.Words.fetch_add.Goals as goal

pub fetch_add-requires : goal.fetch_add-requires
fetch_add-requires g c = (c.requires.own, c.requires.inside, steps _ _ g.T.Tally.core g.T.Tally.adds_up _ _ _ _ _ _ _ c.args.pass.now.alive c.requires.update)
