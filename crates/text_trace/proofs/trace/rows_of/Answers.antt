use Rattle.text_trace.proofs.Names.{[], lines_of}
use Rattle.text_trace.proofs.TraceLaws.{opens_none, rows_read}
use Rattle.text_trace.proofs.trace.rows_of.Goals as goal

pub returns-in-Err : goal.returns-in-Err
returns-in-Err g c = opens_none g.T.AtomicInteger.arithmetic g.T.TextInteger.numerals (lines_of c.args.text.now) _ _ c.in-Err.fault c.in-Err.ensures.fault c.in_ok-titles.ensures c.new-rows.ensures.items

pub returns : goal.returns
returns g c =
    let told = c.in-Ok.ensures in
    rows_read g.T.AtomicInteger.arithmetic g.T.TextInteger.numerals (lines_of c.args.text.now) c.in-Ok.opened.0 c.in-Ok.opened.1 _ _ _ c.in_ok-fault.fault told.opened told.line told.left c.in_ok-titles.ensures c.new-rows.ensures.items (c.in_ok-fault.ensures.added [] c.in_ok-machine.ensures)
