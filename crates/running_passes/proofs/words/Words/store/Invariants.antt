use Rattle.running_passes.proofs.Names.{Told}
use Rattle.running_passes.proofs.words.Words.store.Given as goal

abbrev pub ghosts-store : goal.ghosts-store
ghosts-store g a = record { then = λ step me found after. Told me (g.D.Deed.tells a.self.now.key step.first step.second me.0) found after }
