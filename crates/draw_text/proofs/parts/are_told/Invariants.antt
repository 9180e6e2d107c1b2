use Rattle.draw_text.proofs.Names.{◌≡◌, length, lines_of, are_told}
use Rattle.draw_text.proofs.parts.are_told.Given as goal

abbrev pub invariant-loop-line : goal.invariant-loop-line
invariant-loop-line l = are_told (lines_of l.lines) ≡ are_told (lines_of l.rest)

abbrev pub decreases-loop-line : goal.decreases-loop-line
decreases-loop-line l = length l.rest
