use Rattle.std.proofs.Common.{◌≡◌, ◌+◌, ◌^◌, ◌<◌, length}
use Rattle.text_lines.specs.Lexer.{lines_of}
use Rattle.text_own.specs.Question.{check_end}
use Rattle.text_own.proofs.question.check_end.Given as goal

-- the lines so far are empty
abbrev pub invariant-loop-next : goal.invariant-loop-next
invariant-loop-next l = (l.line + length l.rest < 2 ^ 64) × (check_end l.number (lines_of l.text) ≡ check_end l.line (lines_of l.rest))

abbrev pub decreases-loop-next : goal.decreases-loop-next
decreases-loop-next l = length l.rest
