use Rattle.text_trace.proofs.Names.{◌+◌, ◌^◌, ◌<◌, List, length}
use Rattle.model_room.specs.Room.{StandsAt}
use Rattle.model_room.specs.declared.event.RoomEvent.{RoomEvent}
use Rattle.text_room.specs.Walk.{most_steps}
use Rattle.text_trace.proofs.SeveralLaws.{IsOnWay}
use Rattle.text_trace.proofs.several.add_steps.Given as goal

abbrev pub invariant-loop-stride : goal.invariant-loop-stride
invariant-loop-stride g l =
    (l.rest.line + length l.rest.lines.now < 2 ^ 64) ×
    ((past : List (RoomEvent g.row.T.Denot)) → StandsAt g.T.AtomicInteger.arithmetic l.setting.objects.now l.setting.parties past l.initial.room →
    IsOnWay g.T.AtomicInteger.arithmetic g.T.TextInteger.numerals l.most l.setting past l.initial.rest l.rest l.initial.rows.items l.rows.items l.room)

abbrev pub decreases-loop-stride : goal.decreases-loop-stride
decreases-loop-stride g l = most_steps l.rest
