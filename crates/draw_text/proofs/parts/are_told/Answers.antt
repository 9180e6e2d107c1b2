use Rattle.draw_text.proofs.Names.{sym, refl, rules, lines_of}
use Rattle.draw_text.proofs.PictureLaws.{none_left}
use Rattle.draw_text.proofs.parts.are_told.Goals as goal

pub returns-then-not-is_told : goal.returns-then-not-is_told
returns-then-not-is_told c = rw (c.loop-line.invariant, c.in-Some.ensures.lines, sym c.is_told.ensures, c.if-not-is_told.true) refl

pub loop-line-preserved : goal.loop-line-preserved
loop-line-preserved c = rw (c.loop-line.invariant, c.in-Some.ensures.lines, sym c.is_told.ensures, c.if-not-is_told.false) refl

pub returns : goal.returns
returns c = none_left (lines_of c.args.lines.now) (lines_of c.loop-line.rest.now) c.loop-line.invariant (search rules)
