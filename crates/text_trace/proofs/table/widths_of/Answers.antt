use Rattle.text_trace.proofs.Names.{◌∙◌, ap, List, arith, take_all, Row, entries, titles, widened_by}
use Rattle.text_trace.proofs.RowLaws.{widened_more}
use Rattle.text_trace.proofs.table.widths_of.Goals as goal

pub loop-row-preserved : goal.loop-row-preserved
loop-row-preserved g c =
    widened_more c.args.rows.now c.loop-row.row-index c.row-item.result titles c.loop-row.widths c.widen.new.widths c.loop-row-test.true c.row-item.is c.loop-row.invariant c.in_ok-widen.ensures

pub returns : goal.returns
returns g c = c.loop-row.invariant ∙ ap (λ (l : List (Row g.row.T.Denot)). widened_by (entries l) titles) (take_all c.loop-row.row-index c.args.rows.now (omega (arith, c.loop-row-test.false)))
