use Rattle.text_trace.proofs.Names.{◌∙◌, ◌++◌, ap, ℕ, List, map, string_bytes, entries, head, line_text, row_lines}
use Rattle.text_trace.proofs.RowLaws.{table_printed}
use Rattle.text_trace.proofs.table.table.Goals as goal

pub returns : goal.returns
returns g c =
    let titles = map string_bytes c.args.titles.now in
    let widths = c.in_ok-widths.widths in
    table_printed titles (entries c.args.rows.now) widths c.in_ok-words.words.items _ (string_bytes c.print_head.new.out) _ c.in_ok-widths.ensures c.in_ok-words.ensures c.new-out.ensures.bytes
    (c.in_ok-print_head.ensures ∙ ap (λ (w : List ℕ). string_bytes c.new-out.result ++ line_text widths w (head titles)) c.deref.ensures.value)
    (c.in_ok-print_rows.ensures ∙ ap (λ (w : List ℕ). string_bytes c.print_head.new.out ++ row_lines widths w (entries c.args.rows.now)) c.deref-2.ensures.value)
