use Rattle.running_passes.proofs.Steps.{closes_both}
use Rattle.running_passes.proofs.words.Words.close_two.Goals as goal

pub returns : goal.returns
returns g c = record { exact = λ whole. closes_both _ _ g.T.Tally.core g.T.Tally.adds_up _ _ _ _ _ _ _ _ _ c.word-one.ensures c.word-other.ensures c.close_with-closed.ensures.values.2 whole }
