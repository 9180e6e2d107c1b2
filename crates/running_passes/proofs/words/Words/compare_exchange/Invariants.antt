use Rattle.running_passes.proofs.Names.{Told}
use Rattle.running_passes.proofs.words.Words.compare_exchange.Given as goal

abbrev pub ghosts-compare_exchange : goal.ghosts-compare_exchange
ghosts-compare_exchange g a = record { then = λ step me found after. Told me (g.D.Deed.tells a.self.now.key step.first step.second me.0) found after }
