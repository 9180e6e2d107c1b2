use Rattle.text_trace.proofs.Names.{◌≡◌, map, take, string_bytes}
use Rattle.std.specs.Str.Lossy.{utf8_lossy}
use Rattle.text_trace.proofs.several.shown_names.Given as goal

abbrev pub invariant-loop-name : goal.invariant-loop-name
invariant-loop-name l = map string_bytes l.shown.items ≡ map (λ name. utf8_lossy name.now) (take l.name-index l.names)
