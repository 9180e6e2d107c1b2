use Rattle.text_trace.proofs.Names.{◌≡◌, length, drop, entries, widest}
use Rattle.text_trace.proofs.table.widest.Given as goal

-- the other rows are still to come
abbrev pub invariant-loop-row : goal.invariant-loop-row
invariant-loop-row g l = widest l.place (entries (drop l.row-index l.rows)) l.width ≡ widest l.place (entries l.rows) (length l.title)
