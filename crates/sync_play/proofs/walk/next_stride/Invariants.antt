use Rattle.sync_play.proofs.Names.{◌≡◌, ◌+◌, ◌^◌, ◌<◌, ◌≤◌, ℕ, List, length, StandsAt, Event, Object, rest_walk, most_steps}
use Rattle.sync_play.proofs.walk.next_stride.Given as goal

abbrev pub invariant-loop-found : goal.invariant-loop-found
invariant-loop-found g l =
    (l.rest.line + length l.rest.lines.now < 2 ^ 64) × (most_steps l.rest ≤ most_steps l.initial.rest) ×
    ((o : Object g.row.T.Denot) (parties : ℕ) (past : List (Event g.row.T.Denot)) → StandsAt g.T.AtomicInteger.arithmetic o parties past l.initial.machine →
    (rest_walk g.T.AtomicInteger.arithmetic g.T.TextInteger.numerals o parties past l.initial.rest ≡ rest_walk g.T.AtomicInteger.arithmetic g.T.TextInteger.numerals o parties past l.rest) × StandsAt g.T.AtomicInteger.arithmetic o parties past l.machine)

abbrev pub decreases-loop-found : goal.decreases-loop-found
decreases-loop-found g l = length l.rest.lines.now
