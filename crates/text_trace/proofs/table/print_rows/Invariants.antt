use Rattle.text_trace.proofs.Names.{◌≡◌, ◌++◌, take, string_bytes, entries, row_lines}
use Rattle.text_trace.proofs.table.print_rows.Given as goal

abbrev pub invariant-loop-row : goal.invariant-loop-row
invariant-loop-row g l = string_bytes l.out ≡ string_bytes l.initial.out ++ row_lines l.widths l.words (entries (take l.row-index l.rows))
