use Rattle.text_trace.proofs.Names.{◌≡◌, map, take, string_bytes}
use Rattle.text_trace.specs.Several.{title_of}
use Rattle.text_trace.proofs.several.titles_of.Given as goal

abbrev pub invariant-loop-name : goal.invariant-loop-name
invariant-loop-name l = map string_bytes l.titles.items ≡ map (λ name. title_of (string_bytes name)) (take l.name-index l.names)
