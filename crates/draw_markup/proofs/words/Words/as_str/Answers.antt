use Rattle.draw_markup.proofs.Trees.{words_same}
use Rattle.draw_markup.proofs.words.Words.as_str.Goals as goal

pub returns : goal.returns
returns c = words_same _ _ c.args.self.now.escaped c.as_str.ensures.value
