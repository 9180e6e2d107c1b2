use Rattle.draw_story.proofs.Names.{◌∙◌, ◌++◌, List, ℕ, ap, sym, arith, map, string_bytes}
use Rattle.std.specs.Prelude.{codes}
use Rattle.text_trace.specs.Table.{text_at}
use Rattle.text_trace.proofs.EachLaws.{of_mapped, made_more, made_all}
use Rattle.draw_story.proofs.title.print_texts.Goals as goal

pub loop-place-preserved : goal.loop-place-preserved
loop-place-preserved c =
    let texts = map string_bytes c.args.texts.now in
    let out = string_bytes c.loop-place.out in
    made_more (λ k title. string_bytes title ++ (codes " " ++ (text_at texts k ++ codes ", "))) c.args.titles.now c.loop-place.place c.index-titles-place.result _ (string_bytes c.args.out.now) out _ c.loop-place-test.true c.index-titles-place.is c.loop-place.invariant
    (c.in_ok-print_text.ensures ∙ ap (λ (title : List ℕ). out ++ (title ++ (codes " " ++ (c.text_at.result.now ++ codes ", ")))) c.as_str.ensures.value
    ∙ ap (λ (text : List ℕ). out ++ (string_bytes c.index-titles-place.result ++ (codes " " ++ (text ++ codes ", ")))) c.text_at.ensures)

pub returns : goal.returns
returns c =
    let texts = map string_bytes c.args.texts.now in
    made_all (λ k title. string_bytes title ++ (codes " " ++ (text_at texts k ++ codes ", "))) c.args.titles.now c.loop-place.place _ _ (omega (arith, c.loop-place-test.false)) c.loop-place.invariant
    ∙ ap (λ (l : List ℕ). string_bytes c.args.out.now ++ l) (sym (of_mapped string_bytes (λ k title. title ++ (codes " " ++ (text_at texts k ++ codes ", "))) 0 c.args.titles.now))
