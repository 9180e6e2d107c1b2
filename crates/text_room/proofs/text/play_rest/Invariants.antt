use Rattle.text_room.proofs.Names.{◌+◌, ◌^◌, ◌<◌, ℕ, List, length, map, string_bytes, RoomEvent, StandsAt}
use Rattle.text_room.specs.Walk.{most_steps}
use Rattle.text_room.proofs.PlayLaws.{IsHalfway}
use Rattle.text_room.proofs.text.play_rest.Given as goal

abbrev pub invariant-loop-stride : goal.invariant-loop-stride
invariant-loop-stride g l =
    (l.rest.line + length l.rest.lines.now < 2 ^ 64) ×
    ((parties : ℕ) (past : List (RoomEvent g.row.T.Denot)) → StandsAt g.T.AtomicInteger.arithmetic l.objects parties past l.initial.room →
    IsHalfway g.T.AtomicInteger.arithmetic g.T.TextInteger.numerals (map (λ name. name.now) l.names) l.objects parties past l.initial.rest l.rest (string_bytes l.initial.out) (string_bytes l.out) l.room)

abbrev pub decreases-loop-stride : goal.decreases-loop-stride
decreases-loop-stride g l = most_steps l.rest
