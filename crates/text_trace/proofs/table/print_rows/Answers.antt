use Rattle.text_trace.proofs.Names.{◌∙◌, ◌++◌, ap, List, arith, take_all, string_bytes, Row, entries, row_lines}
use Rattle.text_trace.proofs.RowLaws.{printed_more}
use Rattle.text_trace.proofs.table.print_rows.Goals as goal

pub loop-row-preserved : goal.loop-row-preserved
loop-row-preserved g c =
    printed_more c.args.rows.now c.loop-row.row-index c.row-item.result c.args.widths.now c.args.words.now _ _ _ c.loop-row-test.true c.row-item.is c.loop-row.invariant c.in_ok-print_row.ensures

pub returns : goal.returns
returns g c =
    c.loop-row.invariant ∙ ap (λ (l : List (Row g.row.T.Denot)). string_bytes c.args.out.now ++ row_lines c.args.widths.now c.args.words.now (entries l))
    (take_all c.loop-row.row-index c.args.rows.now (omega (arith, c.loop-row-test.false)))
