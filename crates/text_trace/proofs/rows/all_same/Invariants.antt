use Rattle.text_trace.proofs.Names.{◌≡◌, length, map, drop, string_bytes, texts_same}
use Rattle.text_trace.proofs.rows.all_same.Given as goal

-- those so far are the same
abbrev pub invariant-loop-index : goal.invariant-loop-index
invariant-loop-index l =
    (length l.a ≡ length l.b) × (texts_same (map string_bytes (drop l.index l.a)) (map string_bytes (drop l.index l.b)) ≡ texts_same (map string_bytes l.a) (map string_bytes l.b))
