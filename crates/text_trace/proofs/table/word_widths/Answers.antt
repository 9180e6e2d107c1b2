use Rattle.text_trace.proofs.Names.{◌∙◌, ◌∷◌, [], ◌++◌, List, ℕ, ap, sym, arith, length, string_bytes, entries, widest}
use Rattle.text_trace.proofs.EachLaws.{of_mapped, made_more, made_all}
use Rattle.text_trace.proofs.table.word_widths.Goals as goal

pub loop-place-preserved : goal.loop-place-preserved
loop-place-preserved g c =
    let rows = entries c.args.rows.now in
    made_more (λ k title. widest k rows (length (string_bytes title)) ∷ []) c.args.titles.now c.loop-place.place c.index-titles-place.result _ [] c.loop-place.widths.items _ c.loop-place-test.true c.index-titles-place.is c.loop-place.invariant
    (c.in_ok-push.ensures.items ∙ ap (λ (w : ℕ). c.loop-place.widths.items ++ w ∷ []) (c.widest.ensures ∙ ap (λ (t : List ℕ). widest c.loop-place.place rows (length t)) c.as_str.ensures.value))

pub returns : goal.returns
returns g c =
    let rows = entries c.args.rows.now in
    made_all (λ k title. widest k rows (length (string_bytes title)) ∷ []) c.args.titles.now c.loop-place.place [] _ (omega (arith, c.loop-place-test.false)) c.loop-place.invariant
    ∙ sym (of_mapped string_bytes (λ k title. widest k rows (length title) ∷ []) 0 c.args.titles.now)
