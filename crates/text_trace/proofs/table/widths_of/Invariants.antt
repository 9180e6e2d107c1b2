use Rattle.text_trace.proofs.Names.{◌≡◌, take, entries, titles, widened_by}
use Rattle.text_trace.proofs.table.widths_of.Given as goal

abbrev pub invariant-loop-row : goal.invariant-loop-row
invariant-loop-row g l = l.widths ≡ widened_by (entries (take l.row-index l.rows)) titles
