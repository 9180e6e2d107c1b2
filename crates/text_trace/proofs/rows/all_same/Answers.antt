use Rattle.text_trace.proofs.Names.{string_bytes}
use Rattle.text_trace.proofs.RowLaws.{texts_differ}
use Rattle.text_trace.proofs.rows.all_same.Goals as goal

pub returns-then-a-b : goal.returns-then-a-b
returns-then-a-b c = texts_differ string_bytes c.args.a.now c.args.b.now c.if-a-b.true
