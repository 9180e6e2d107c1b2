use Rattle.text_trace.proofs.Names.{◌≡◌, ◌≤◌, List, string_bytes, Event, StandsAt, holders}
use Rattle.text_trace.proofs.cells.print_holders.Given as goal

abbrev pub invariant-loop-party : goal.invariant-loop-party
invariant-loop-party g l =
    (l.party ≤ l.parties) × ((past : List (Event g.row.T.Denot)) → StandsAt g.T.AtomicInteger.arithmetic l.object l.parties past l.machine →
    string_bytes l.text ≡ holders g.T.AtomicInteger.arithmetic l.object l.name (string_bytes l.initial.text) past l.party)
