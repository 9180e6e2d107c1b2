use Rattle.running_passes.proofs.Names.{rules}
use Rattle.running_passes.proofs.words.Words.new.Goals as goal

pub of_words-requires : goal.of_words-requires
of_words-requires g c = search rules

pub returns-clause-count : goal.returns-clause-count
returns-clause-count g c = search rules
