use Rattle.text_room.proofs.Names.{◌≡◌, ◌+◌, ◌^◌, ◌<◌, ◌≤◌, ℕ, List, length, map, StandsAt, RoomEvent}
use Rattle.text_room.specs.Walk.{rest_walk, most_steps}
use Rattle.text_room.proofs.walk.next_stride.Given as goal

abbrev pub invariant-loop-found : goal.invariant-loop-found
invariant-loop-found g l =
    let names = map (λ name. name.now) l.names in
    (l.rest.line + length l.rest.lines.now < 2 ^ 64) × (most_steps l.rest ≤ most_steps l.initial.rest) ×
    ((parties : ℕ) (past : List (RoomEvent g.row.T.Denot)) → StandsAt g.T.AtomicInteger.arithmetic l.objects parties past l.initial.room →
    (rest_walk g.T.AtomicInteger.arithmetic g.T.TextInteger.numerals names l.objects parties past l.initial.rest ≡ rest_walk g.T.AtomicInteger.arithmetic g.T.TextInteger.numerals names l.objects parties past l.rest)
    × StandsAt g.T.AtomicInteger.arithmetic l.objects parties past l.room)

abbrev pub decreases-loop-found : goal.decreases-loop-found
decreases-loop-found g l = length l.rest.lines.now
