use Rattle.running_passes.proofs.Names.{Told}
use Rattle.running_passes.proofs.words.Words.load.Given as goal

abbrev pub ghosts-load : goal.ghosts-load
ghosts-load g a = record { then = λ step me found after. Told me (g.D.Deed.tells a.self.now.key step.first step.second me.0) found after }
