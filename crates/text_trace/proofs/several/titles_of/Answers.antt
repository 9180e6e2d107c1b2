use Rattle.text_trace.proofs.Names.{◌∙◌, sym, ap, arith, List, map, take_all, String, Global, string_bytes}
use Rattle.std.proofs.lemmas.Simd.{map-map}
use Rattle.text_trace.specs.Several.{title_of}
use Rattle.text_trace.proofs.several.titles_of.Goals as goal

pub returns : goal.returns
returns c =
    c.loop-name.invariant ∙ ap (λ (l : List (String Global)). map (λ name. title_of (string_bytes name)) l) (take_all c.loop-name.name-index c.args.names.now (omega (arith, c.loop-name-test.false))) ∙ sym (map-map title_of string_bytes c.args.names.now)
