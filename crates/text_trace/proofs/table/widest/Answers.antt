use Rattle.text_trace.proofs.Names.{◌∙◌, ap, List, ℕ, String, Global, arith, length, map, max, string_bytes, text_at}
use Rattle.text_trace.proofs.RowLaws.{widest_more, widest_all}
use Rattle.text_trace.proofs.table.widest.Goals as goal

pub loop-row-preserved : goal.loop-row-preserved
loop-row-preserved g c =
    widest_more c.args.rows.now c.loop-row.row-index c.args.place c.row-item.result c.loop-row.width _ _ c.loop-row-test.true c.row-item.is c.loop-row.invariant
    (c.max-width.ensures ∙ ap (λ (t : List ℕ). max c.loop-row.width (length t)) (c.text_at.ensures ∙ ap (λ (l : List (String Global)). text_at (map string_bytes l) c.args.place) c.deref.ensures.value))

pub returns : goal.returns
returns g c = widest_all c.args.rows.now c.loop-row.row-index c.args.place c.loop-row.width _ (omega (arith, c.loop-row-test.false)) c.loop-row.invariant
