use Rattle.text_trace.proofs.Names.{◌≡◌, ◌≤◌, map, string_bytes}
use Rattle.text_trace.specs.Own.{values}
use Rattle.text_trace.proofs.own.add_words.Given as goal

abbrev pub invariant-loop-place : goal.invariant-loop-place
invariant-loop-place l = (l.place ≤ l.count) × (map string_bytes l.texts.items ≡ values l.words l.place)
