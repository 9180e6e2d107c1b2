use Rattle.text_trace.proofs.Names.{◌≡◌, subst, IfOk}
use Rattle.text_trace.specs.Trace.{RowsAndFault, written, written_of}
use Rattle.text_trace.proofs.trace.trace_typed.Goals as goal

pub returns : goal.returns
returns g c = subst (λ (rows : RowsAndFault g.row.T.Denot). IfOk c.written.result (λ trace. written_of trace ≡ written rows)) c.in_ok-found.ensures c.written.ensures
