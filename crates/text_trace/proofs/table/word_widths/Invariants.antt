use Rattle.text_trace.proofs.Names.{◌∷◌, [], length, string_bytes, entries, widest}
use Rattle.text_trace.proofs.EachLaws.{HasMade}
use Rattle.text_trace.proofs.table.word_widths.Given as goal

abbrev pub invariant-loop-place : goal.invariant-loop-place
invariant-loop-place g l = HasMade (λ k title. widest k (entries l.rows) (length (string_bytes title)) ∷ []) l.titles l.place [] l.widths.items
