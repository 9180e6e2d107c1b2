use Rattle.text_trace.proofs.Names.{map, string_bytes, cell, text_at}
use Rattle.text_trace.proofs.EachLaws.{HasMade}
use Rattle.text_trace.proofs.table.print_words.Given as goal

abbrev pub invariant-loop-place : goal.invariant-loop-place
invariant-loop-place l = HasMade (λ k width. cell width (text_at (map string_bytes l.texts) k)) l.widths l.place (string_bytes l.initial.out) (string_bytes l.out)
