use Rattle.running_passes.proofs.Steps.{steps}
use Rattle.running_passes.proofs.words.Words.compare_exchange.Goals as goal

pub compare_exchange-requires : goal.compare_exchange-requires
compare_exchange-requires g c = (c.requires.own, c.requires.inside, steps _ _ g.T.Tally.core g.T.Tally.adds_up _ _ _ _ _ _ _ c.args.pass.now.alive c.requires.update)
