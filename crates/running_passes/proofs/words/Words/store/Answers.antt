use Rattle.running_passes.proofs.Steps.{steps}
use Rattle.running_passes.proofs.words.Words.store.Goals as goal

pub store-requires : goal.store-requires
store-requires g c = (c.requires.own, c.requires.inside, steps _ _ g.T.Tally.core g.T.Tally.adds_up _ _ _ _ _ _ _ c.args.pass.now.alive c.requires.update)
