use Rattle.text_trace.proofs.Names.{◌≡◌, ◌++◌, ◌≤◌, string_bytes, replicate}
use Rattle.text_trace.proofs.table.print_spaces.Given as goal

abbrev pub invariant-loop-index : goal.invariant-loop-index
invariant-loop-index l = (l._index ≤ l.count) × (string_bytes l.out ≡ string_bytes l.initial.out ++ replicate l._index 32)
