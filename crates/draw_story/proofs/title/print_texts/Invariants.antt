use Rattle.draw_story.proofs.Names.{◌++◌, string_bytes, map}
use Rattle.std.specs.Prelude.{codes}
use Rattle.text_trace.specs.Table.{text_at}
use Rattle.text_trace.proofs.EachLaws.{HasMade}
use Rattle.draw_story.proofs.title.print_texts.Given as goal

abbrev pub invariant-loop-place : goal.invariant-loop-place
invariant-loop-place l =
    HasMade (λ k title. string_bytes title ++ (codes " " ++ (text_at (map string_bytes l.texts) k ++ codes ", "))) l.titles l.place (string_bytes l.initial.out) (string_bytes l.out)
