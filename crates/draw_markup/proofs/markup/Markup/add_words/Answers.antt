use Rattle.draw_markup.proofs.Trees.{markup_tried, markup_of_words}
use Rattle.draw_markup.proofs.markup.Markup.add_words.Goals as goal

pub invariant_of-self : goal.invariant_of-self
invariant_of-self c = record { closed = markup_tried _ _ _ _ c.args.self.now.closed (markup_of_words _ c.as_str.ensures) c.push_str.ensures.bytes }
