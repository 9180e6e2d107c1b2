use Rattle.draw_markup.proofs.Trees.{group_more}
use Rattle.draw_markup.proofs.group.push_group.Goals as goal

pub returns : goal.returns
returns c =
    λ titles h. group_more titles c.args.group.now.title.now _ _ _ _ _ _ _ h c.as_str.ensures c.in_ok-push_words.ensures.text c.in_ok-push_str.ensures.bytes c.in_ok-push_words.ensures.shown c.in_ok-push_str-2.ensures.bytes
    c.in_ok-push_str-3.ensures.bytes c.in_ok-push_str-4.ensures.bytes
