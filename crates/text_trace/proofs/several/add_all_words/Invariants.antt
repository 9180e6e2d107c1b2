use Rattle.text_trace.proofs.Names.{ℕ, List, [], map, string_bytes}
use Rattle.model_room.specs.Room.{StandsAt}
use Rattle.model_room.specs.declared.event.RoomEvent.{RoomEvent}
use Rattle.text_trace.specs.Several.{words_there}
use Rattle.text_trace.proofs.EachLaws.{HasMade}
use Rattle.text_trace.proofs.several.add_all_words.Given as goal

abbrev pub invariant-loop-object : goal.invariant-loop-object
invariant-loop-object g l =
    (parties : ℕ) (past : List (RoomEvent g.row.T.Denot)) → StandsAt g.T.AtomicInteger.arithmetic l.objects parties past l.room →
    HasMade (words_there g.T.AtomicInteger.arithmetic g.T.TextInteger.numerals past) l.objects l.object [] (map string_bytes l.texts.items)
