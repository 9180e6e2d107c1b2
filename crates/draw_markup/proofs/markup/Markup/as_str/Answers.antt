use Rattle.draw_markup.proofs.Trees.{markup_same}
use Rattle.draw_markup.proofs.markup.Markup.as_str.Goals as goal

pub returns : goal.returns
returns c = markup_same _ _ _ c.args.self.now.closed c.as_str.ensures.value
