use Rattle.draw_markup.proofs.Names.{[], titles_of}
use Rattle.draw_markup.proofs.Trees.{markup_same, markup_around}
use Rattle.draw_markup.proofs.opening.Opening.whole_with.Goals as goal

pub returns : goal.returns
returns c =
    let titles = titles_of c.args.groups.now in
    let first = markup_same [] _ _ c.as_str.ensures c.in_ok-inside.ensures.ok in
    let all = markup_around titles _ _ _ (c.in_ok-push_groups.ensures [] first) c.as_str-2.ensures c.in_ok-push_str.ensures.bytes in
    c.close.ensures titles (markup_same titles _ _ all c.as_str-3.ensures.value)
