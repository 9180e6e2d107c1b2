use Rattle.text_trace.proofs.Names.{◌≡◌, ◌∙◌, subst, IfOk, lines_of}
use Rattle.text_lines.specs.Fault.{IsFaultOf}
use Rattle.text_lines.specs.declared.fault.TextFault.{TextFault}
use Rattle.text_room.specs.Walk.{opened, told}
use Rattle.text_trace.specs.Trace.{RowsAndFault, rows_told}
use Rattle.text_trace.proofs.SeveralLaws.{opens_none, opens}
use Rattle.text_trace.proofs.several.rows_of.Goals as goal

pub returns-in-Ok : goal.returns-in-Ok
returns-in-Ok g c =
    subst (λ (rows : RowsAndFault g.row.T.Denot). IfOk c.rows_of_group.result (λ found. rows_told found ≡ rows))
    (opens g.T.AtomicInteger.arithmetic g.T.TextInteger.numerals (lines_of c.args.text.now) (told c.in-Ok.group c.in-Ok.rest) c.in-Ok.ensures.opened) c.rows_of_group.ensures

pub returns-in-Err-Line : goal.returns-in-Err-Line
returns-in-Err-Line g c =
    c.no_rows.ensures
    ∙ opens_none g.T.AtomicInteger.arithmetic g.T.TextInteger.numerals (lines_of c.args.text.now) (record { line = c.in-Err-Line.line; fault = c.in-Err-Line.fault }) (subst (λ (e : TextFault). IsFaultOf e (opened g.T.TextInteger.numerals (lines_of c.args.text.now))) c.in-Err-Line.field-0-is c.in-Err-Line.ensures.fault)
