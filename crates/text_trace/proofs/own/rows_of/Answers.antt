use Rattle.text_trace.proofs.Names.{◌≡◌, ◌∙◌, ℕ, subst, IfOk, lines_of}
use Rattle.text_lines.specs.Fault.{IsFaultOf}
use Rattle.text_lines.specs.declared.fault.TextFault.{TextFault}
use Rattle.own_play.specs.Output.{begun_in, told}
use Rattle.text_trace.specs.Trace.{RowsAndFault, rows_told}
use Rattle.text_trace.proofs.OwnLaws.{opens_none, opens}
use Rattle.text_trace.proofs.own.rows_of.Goals as goal

pub returns-in-Ok : goal.returns-in-Ok
returns-in-Ok c = subst (λ (rows : RowsAndFault ℕ). IfOk c.rows_after.result (λ found. rows_told found ≡ rows)) (opens (lines_of c.args.text.now) (told c.in-Ok.opened) c.in-Ok.ensures.opened) c.rows_after.ensures

pub returns-in-Err-Line : goal.returns-in-Err-Line
returns-in-Err-Line c =
    c.no_rows.ensures ∙ opens_none (lines_of c.args.text.now) (record { line = c.in-Err-Line.line; fault = c.in-Err-Line.fault }) (subst (λ (e : TextFault). IsFaultOf e (begun_in (lines_of c.args.text.now))) c.in-Err-Line.field-0-is c.in-Err-Line.ensures.fault)
