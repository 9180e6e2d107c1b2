use Rattle.std.proofs.Common.{◌≡◌, ◌+◌, ◌^◌, ◌<◌, length, map}
use Rattle.text_lines.specs.Lexer.{lines_of}
use Rattle.text_own.specs.Table.{read_lines, first_state}
use Rattle.text_own.proofs.table.read_lines.Given as goal

-- the lines so far were read
abbrev pub invariant-loop-next : goal.invariant-loop-next
invariant-loop-next l =
    let names = map (λ name. name.now) l.names in
    let labels = map (λ label. label.now) l.labels in
    (l.line + length l.rest + 1 < 2 ^ 64) ×
    (read_lines names labels l.stop 2 first_state (lines_of l.text) ≡ read_lines names labels l.stop l.line (record { calls = l.calls; rows = l.rows.items }) (lines_of l.rest))

abbrev pub decreases-loop-next : goal.decreases-loop-next
decreases-loop-next l = length l.rest
