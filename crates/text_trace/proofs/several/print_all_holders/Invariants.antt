use Rattle.text_trace.proofs.Names.{List, map, string_bytes}
use Rattle.model_room.specs.Room.{StandsAt}
use Rattle.model_room.specs.declared.event.RoomEvent.{RoomEvent}
use Rattle.text_trace.proofs.SeveralLaws.{PrintsHolders}
use Rattle.text_trace.proofs.several.print_all_holders.Given as goal

abbrev pub invariant-loop-object : goal.invariant-loop-object
invariant-loop-object g l =
    (past : List (RoomEvent g.row.T.Denot)) → StandsAt g.T.AtomicInteger.arithmetic l.objects l.parties past l.room →
    PrintsHolders g.T.AtomicInteger.arithmetic (map string_bytes l.names) l.objects l.parties past l.object (string_bytes l.text)
