use Rattle.std.proofs.Common.{◌≡◌, ◌++◌, length, map}
use Rattle.text_lines.specs.Lexer.{lines_of}
use Rattle.text_own.specs.Table.{labels_of}
use Rattle.text_own.proofs.table.labels_of.Given as goal

-- the lines so far were read
abbrev pub invariant-loop-line : goal.invariant-loop-line
invariant-loop-line l = labels_of l.stop (lines_of l.text) ≡ map (λ label. label.now) l.labels.items ++ labels_of l.stop (lines_of l.rest)

abbrev pub decreases-loop-line : goal.decreases-loop-line
decreases-loop-line l = length l.rest
