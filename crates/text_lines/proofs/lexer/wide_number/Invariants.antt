use Rattle.text_lines.proofs.Names.{◌≡◌, ◌<◌, ◌^◌, drop, fitting, number_of, number_from}
use Rattle.text_lines.proofs.lexer.wide_number.Given as goal

abbrev pub invariant-loop-byte : goal.invariant-loop-byte
invariant-loop-byte l = (fitting (2 ^ 128) (number_from l.number (drop l.byte-index l.word)) ≡ fitting (2 ^ 128) (number_of l.word)) × (l.number < 2 ^ 128)
