use Rattle.text_trace.proofs.RowLaws.{line_printed}
use Rattle.text_trace.proofs.table.print_line.Goals as goal

pub returns : goal.returns
returns c =
    line_printed c.args.widths.now c.args.words.now c.args.line.now _ _ _ _ _ _ _ _ _ _ c.in_ok-print_cell.ensures c.in_ok-print_cell-2.ensures c.in_ok-print_cell-3.ensures c.in_ok-print_cell-4.ensures c.in_ok-print_cell-5.ensures
    c.in_ok-print_words.ensures c.in_ok-print_cell-6.ensures c.in_ok-push_str.ensures.bytes c.in_ok-push_str-2.ensures.bytes
