use Rattle.text_trace.proofs.Names.{[]}
use Rattle.text_trace.proofs.SeveralLaws.{rows_read}
use Rattle.text_trace.proofs.several.rows_after.Goals as goal

pub returns : goal.returns
returns g c =
    rows_read g.T.AtomicInteger.arithmetic g.T.TextInteger.numerals c.args.setting.now c.args.rest.now _ _ _ _ c.in_ok-titles.ensures c.new-rows.ensures.items (c.in_ok-fault.ensures.added [] c.in_ok-room.ensures)
