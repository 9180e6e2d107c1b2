use Rattle.text_trace.proofs.Names.{◌+◌, ◌^◌, ◌<◌, List, length, Event, StandsAt, most_steps}
use Rattle.text_trace.proofs.TraceLaws.{IsOnWay}
use Rattle.text_trace.proofs.trace.add_steps.Given as goal

abbrev pub invariant-loop-stride : goal.invariant-loop-stride
invariant-loop-stride g l =
    (l.rest.line + length l.rest.lines.now < 2 ^ 64) ×
    ((past : List (Event g.row.T.Denot)) → StandsAt g.T.AtomicInteger.arithmetic l.header.object l.header.parties past l.initial.machine →
    IsOnWay g.T.AtomicInteger.arithmetic g.T.TextInteger.numerals l.most l.header past l.initial.rest l.rest l.initial.rows.items l.rows.items l.machine)

abbrev pub decreases-loop-stride : goal.decreases-loop-stride
decreases-loop-stride g l = most_steps l.rest
