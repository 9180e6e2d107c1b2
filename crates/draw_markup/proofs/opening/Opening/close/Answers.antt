use Rattle.std.proofs.Common.{refl}
use Rattle.draw_markup.proofs.Trees.{element}
use Rattle.draw_markup.proofs.opening.Opening.close.Goals as goal

pub returns : goal.returns
returns c =
    λ titles h. element c.args.self.tag titles _ c.args.inside.now _ c.args.self.open h
    (rw (c.in_ok-push_str-5.ensures.bytes, c.in_ok-push_str-4.ensures.bytes, c.in_ok-push_str-3.ensures.bytes, c.in_ok-push_str-2.ensures.bytes, c.in_ok-push_str.ensures.bytes, c.tag_name.ensures) refl)
