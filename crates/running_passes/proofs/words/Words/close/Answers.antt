use Rattle.running_passes.proofs.Steps.{closes}
use Rattle.running_passes.proofs.words.Words.close.Goals as goal

pub returns : goal.returns
returns g c = record { exact = λ whole. closes _ _ g.T.Tally.core g.T.Tally.adds_up _ _ _ _ _ _ _ c.word-found.ensures c.close_with-closed.ensures.values.2 whole }
