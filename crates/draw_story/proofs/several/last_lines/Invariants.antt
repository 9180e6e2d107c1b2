use Rattle.draw_story.proofs.Names.{ℕ, List, [], map, string_bytes}
use Rattle.model_events.specs.declared.event.Object.{Object}
use Rattle.model_room.specs.Room.{StandsAt}
use Rattle.model_room.specs.declared.event.RoomEvent.{RoomEvent}
use Rattle.text_room.proofs.LastLaws.{PrintsLasts}
use Rattle.draw_story.proofs.several.last_lines.Given as goal

-- the last lines so far were printed
abbrev pub invariant-loop-object : goal.invariant-loop-object
invariant-loop-object g l =
    (objects : List (Object g.row.T.Denot)) (parties : ℕ) (past : List (RoomEvent g.row.T.Denot)) → StandsAt g.T.AtomicInteger.arithmetic objects parties past l.room →
    PrintsLasts g.T.AtomicInteger.arithmetic g.T.TextInteger.numerals (map string_bytes l.names) objects past l.object [] (string_bytes l.last)
