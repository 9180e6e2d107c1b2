use Rattle.running_passes.proofs.Names.{Told}
use Rattle.running_passes.proofs.words.Words.fetch_sub.Given as goal

abbrev pub ghosts-fetch_sub : goal.ghosts-fetch_sub
ghosts-fetch_sub g a = record { then = λ step me found after. Told me (g.D.Deed.tells a.self.now.key step.first step.second me.0) found after }
