use Rattle.running_passes.proofs.Names.{rules}
use Rattle.running_passes.proofs.Steps.{steps}
use Rattle.running_passes.proofs.words.Words.load.Goals as goal

pub load-requires : goal.load-requires
load-requires g c = (c.requires.own, c.requires.inside, steps _ _ g.T.Tally.core g.T.Tally.adds_up _ _ _ _ _ _ _ c.args.pass.now.alive c.requires.update)

pub returns-clause-told : goal.returns-clause-told
returns-clause-told g c = search rules
