use Rattle.text_trace.proofs.Names.{◌∙◌, ◌++◌, List, ℕ, ap, refl, get_or, arith, map, string_bytes, cell, text_at}
use Rattle.text_trace.proofs.EachLaws.{made_more, made_all}
use Rattle.text_trace.proofs.table.print_words.Goals as goal

pub loop-place-preserved : goal.loop-place-preserved
loop-place-preserved c =
    let texts = map string_bytes c.args.texts.now in
    let width = get_or c.args.widths.now c.loop-place.place 0 in
    made_more (λ k width. cell width (text_at texts k)) c.args.widths.now c.loop-place.place width 0 (string_bytes c.args.out.now) (string_bytes c.loop-place.out) _ c.loop-place-test.true refl c.loop-place.invariant
    (c.in_ok-print_cell.ensures ∙ ap (λ (t : List ℕ). string_bytes c.loop-place.out ++ cell width t) c.text_at.ensures)

pub returns : goal.returns
returns c = made_all (λ k width. cell width (text_at (map string_bytes c.args.texts.now) k)) c.args.widths.now c.loop-place.place _ _ (omega (arith, c.loop-place-test.false)) c.loop-place.invariant
