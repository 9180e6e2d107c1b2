use Rattle.text_room.proofs.Names.{ℕ, List, map, RoomEvent, Object, StandsAt}
use Rattle.text_room.proofs.LastLaws.{PrintsLasts}
use Rattle.text_room.proofs.text.print_lasts.Given as goal

-- the last lines so far were printed
abbrev pub invariant-loop-object : goal.invariant-loop-object
invariant-loop-object g l =
    (objects : List (Object g.row.T.Denot)) (parties : ℕ) (past : List (RoomEvent g.row.T.Denot)) → StandsAt g.T.AtomicInteger.arithmetic objects parties past l.room →
    PrintsLasts g.T.AtomicInteger.arithmetic g.T.TextInteger.numerals (map (λ name. name.now) l.names) objects past l.object l.initial.out.items l.out.items
