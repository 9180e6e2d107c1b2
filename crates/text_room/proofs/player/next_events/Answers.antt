use Rattle.text_room.proofs.Names.{◌≡◌, ◌<◌, refl, ap, ◌∙◌, arith, rules, tests, RoomCommand, Task}
use Rattle.text_room.proofs.WalkLaws.{turn_done, turn_limited, turn_given, turn_not_given, turn_strides, stride_refused}
use Rattle.text_room.proofs.player.next_events.Goals.{in-Go, in-Go-2}
use Rattle.text_room.proofs.player.next_events.Goals as goal

pub returns-in-Go-eq0-clause-turn : goal.returns-in-Go-eq0-clause-turn
returns-in-Go-eq0-clause-turn g c objects parties past stands =
    let none : c.in-Go-eq0.field-0 ≡ 0 = search (rules, tests) in
    turn_done g.T.AtomicInteger.arithmetic objects parties past c.args.left.now c.args.left.now c.args.room.now (c.in-Go-eq0.is ∙ ap Task.Go none) stands

pub returns-in-Run-eq0-clause-turn : goal.returns-in-Run-eq0-clause-turn
returns-in-Run-eq0-clause-turn g c objects parties past stands =
    let none : c.in-Run-eq0.field-0 ≡ 0 = search (rules, tests) in
    turn_limited g.T.AtomicInteger.arithmetic objects parties past c.args.left.now c.args.left.now c.args.room.now (c.in-Run-eq0.is ∙ ap Task.Run none)

pub returns-in-Ok-clause-turn : goal.returns-in-Ok-clause-turn
returns-in-Ok-clause-turn g c objects parties past stands =
    let old : RoomCommand g.row.T.Denot = c.args.left.now in
    let new : RoomCommand g.row.T.Denot = record { party = old.party; named = old.named; task = Task.Go 0 } in
    turn_given g.T.AtomicInteger.arithmetic objects parties past old new c.in-Give.input c.in-Ok.event _ c.seat.result c.args.room.now c.step.new.self c.in-Give.is refl stands c.seat.ensures c.where_of-object.ensures c.in-Ok.ensures.next

pub returns-in-Err-clause-turn : goal.returns-in-Err-clause-turn
returns-in-Err-clause-turn g c objects parties past stands =
    let old : RoomCommand g.row.T.Denot = c.args.left.now in
    rw c.line_fault.ensures
    (turn_not_given g.T.AtomicInteger.arithmetic objects parties past old old c.in-Give.input c.in-Err.fault c.where_of-object.result c.seat.result c.args.room.now c.step.new.self c.in-Give.is stands c.seat.ensures c.where_of-object.ensures c.in-Err.ensures.fault)

pub returns-in-Ok-stride-clause-turn : goal.returns-in-Ok-stride-clause-turn
returns-in-Ok-stride-clause-turn g c objects parties past stands =
    let old : RoomCommand g.row.T.Denot = c.args.left.now in
    let new : RoomCommand g.row.T.Denot = record { party = old.party; named = old.named; task = c.left_after-left.result } in
    let stride = c.in-Ok-stride.stride in
    let told = c.in-Ok-stride.ensures in
    elim c.in-Go-1.branch [
      | in-Go w ↦
          turn_strides g.T.AtomicInteger.arithmetic objects parties past old new w.in-Go.limit stride c.where_of-object-in-Go.result c.args.room.now c.stride.new.self w.in-Go.is refl c.left_after-left.ensures told.some (omega (arith, told.within, w.limit-is)) told.quiet stands told.run
      | in-Go-2 w ↦
          turn_strides g.T.AtomicInteger.arithmetic objects parties past old new w.in-Go.limit stride c.where_of-object-in-Go.result c.args.room.now c.stride.new.self w.in-Go.is refl c.left_after-left.ensures told.some (omega (arith, told.within, w.limit-is)) told.quiet stands told.run
    ]

pub returns-in-Err-stride-clause-turn : goal.returns-in-Err-stride-clause-turn
returns-in-Err-stride-clause-turn g c objects parties past stands =
    let old : RoomCommand g.row.T.Denot = c.args.left.now in
    let fault = c.in-Err-stride.fault in
    let refused = c.in-Err-stride.ensures.fault in
    elim c.in-Go-1.branch [
      | in-Go w ↦
          let some : 0 < w.in-Go.limit = search (rules, tests) in
          rw c.line_fault-in-Err-stride.ensures
          (stride_refused g.T.AtomicInteger.arithmetic objects parties past old old w.in-Go.limit fault c.where_of-object-in-Go.result c.seat-in-Go.result c.args.room.now c.stride.new.self w.in-Go.is some stands c.seat-in-Go.ensures c.where_of-object-in-Go.ensures refused)
      | in-Go-2 w ↦
          let some : 0 < w.in-Go.limit = search (rules, tests) in
          rw c.line_fault-in-Err-stride.ensures
          (stride_refused g.T.AtomicInteger.arithmetic objects parties past old old w.in-Go.limit fault c.where_of-object-in-Go.result c.seat-in-Go.result c.args.room.now c.stride.new.self w.in-Go.is some stands c.seat-in-Go.ensures c.where_of-object-in-Go.ensures refused)
    ]
