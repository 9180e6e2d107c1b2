use Rattle.running_passes.proofs.Names.{rules}
use Rattle.running_passes.proofs.words.Words.word.Goals as goal

pub returns : goal.returns
returns g c = search rules
