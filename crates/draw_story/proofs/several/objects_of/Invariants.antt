use Rattle.draw_story.proofs.Names.{ℕ, [], map, string_bytes}
use Rattle.model_room.specs.Room.{StandsAt}
use Rattle.text_trace.proofs.EachLaws.{HasMade}
use Rattle.draw_story.specs.Story.{object_shown, object_at}
use Rattle.draw_story.proofs.several.objects_of.Given as goal

abbrev pub invariant-loop-object : goal.invariant-loop-object
invariant-loop-object g l =
    (parties : ℕ) → StandsAt g.T.AtomicInteger.arithmetic l.setting.objects.now parties [] l.room →
    HasMade (object_at g.T.AtomicInteger.arithmetic (map string_bytes l.setting.shown.now)) l.setting.objects.now l.object [] (map object_shown l.objects.items)
