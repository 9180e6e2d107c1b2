use Rattle.std.proofs.Common.{◌≡◌, length, map, []}
use Rattle.text_lines.specs.Lexer.{words_of}
use Rattle.text_own.specs.Table.{words_from}
use Rattle.text_own.proofs.table.words_from.Given as goal

-- the words so far were read
abbrev pub invariant-loop-name : goal.invariant-loop-name
invariant-loop-name l = words_from [] [] (words_of l.line) ≡ words_from (map (λ name. name.now) l.names.items) l.opening.items (words_of l.rest)

abbrev pub decreases-loop-name : goal.decreases-loop-name
decreases-loop-name l = length (words_of l.rest)
