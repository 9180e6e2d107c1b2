use Rattle.sync_play.proofs.Names.{◌≡◌, ◌<◌, refl, ap, ◌∙◌, arith, rules, tests, err_from_is_err_and, Command, Task}
use Rattle.sync_play.proofs.WalkLaws.{turn_done, turn_limited, turn_given, turn_not_given, turn_strides, stride_refused}
use Rattle.sync_play.proofs.player.next_events.Goals.{in-Go, in-Go-2}
use Rattle.sync_play.proofs.player.next_events.Goals as goal

pub returns-in-Go-eq0-clause-turn : goal.returns-in-Go-eq0-clause-turn
returns-in-Go-eq0-clause-turn g c o parties past stands =
    let none : c.in-Go-eq0.field-0 ≡ 0 = search (rules, tests) in
    turn_done g.T.AtomicInteger.arithmetic o parties past c.args.left.now c.args.left.now c.args.machine.now (c.in-Go-eq0.is ∙ ap Task.Go none) stands

pub returns-in-Run-eq0-clause-turn : goal.returns-in-Run-eq0-clause-turn
returns-in-Run-eq0-clause-turn g c o parties past stands =
    let none : c.in-Run-eq0.field-0 ≡ 0 = search (rules, tests) in
    turn_limited g.T.AtomicInteger.arithmetic o parties past c.args.left.now c.args.left.now c.args.machine.now (c.in-Run-eq0.is ∙ ap Task.Run none)

pub returns-in_ok-event-in-Give-clause-turn : goal.returns-in_ok-event-in-Give-clause-turn
returns-in_ok-event-in-Give-clause-turn g c o parties past stands =
    let old : Command g.row.T.Denot = c.args.left.now in
    let new : Command g.row.T.Denot = record { party = old.party; task = Task.Go 0 } in
    turn_given g.T.AtomicInteger.arithmetic o parties past old new c.in-Give.input c.in_ok-event-in-Give.event c.args.machine.now c.step.new.self c.in-Give.is refl stands c.in_ok-event-in-Give.ensures.next

pub returns-in_err-event-in-Give-clause-turn : goal.returns-in_err-event-in-Give-clause-turn
returns-in_err-event-in-Give-clause-turn g c o parties past stands =
    let p = err_from_is_err_and c.from_residual.result c.from_residual.ensures.1 in
    rw (p.1, p.2) (turn_not_given g.T.AtomicInteger.arithmetic o parties past c.args.left.now c.args.left.now c.in-Give.input c.in_err-event-in-Give.field-0.0 c.args.machine.now c.step.new.self c.in-Give.is stands c.in_err-event-in-Give.ensures.fault)

pub returns-in_ok-stride-in-Go-clause-turn : goal.returns-in_ok-stride-in-Go-clause-turn
returns-in_ok-stride-in-Go-clause-turn g c o parties past stands =
    let old : Command g.row.T.Denot = c.args.left.now in
    let stride = c.in_ok-stride-in-Go.stride in
    let told = c.in_ok-stride-in-Go.ensures in
    let new : Command g.row.T.Denot = record { party = old.party; task = c.left_after-left.result } in
    elim c.in-Go-1.branch [
      | in-Go w ↦
          turn_strides g.T.AtomicInteger.arithmetic o parties past old new w.in-Go.limit stride c.args.machine.now c.stride.new.self w.in-Go.is refl c.left_after-left.ensures told.some (omega (arith, told.within, w.limit-is)) told.quiet stands told.run
      | in-Go-2 w ↦
          turn_strides g.T.AtomicInteger.arithmetic o parties past old new w.in-Go.limit stride c.args.machine.now c.stride.new.self w.in-Go.is refl c.left_after-left.ensures told.some (omega (arith, told.within, w.limit-is)) told.quiet stands told.run
    ]

pub returns-in_err-stride-in-Go-clause-turn : goal.returns-in_err-stride-in-Go-clause-turn
returns-in_err-stride-in-Go-clause-turn g c o parties past stands =
    let p = err_from_is_err_and c.from_residual-in_err-stride-in-Go.result c.from_residual-in_err-stride-in-Go.ensures.1 in
    let refused = c.in_err-stride-in-Go.ensures.fault in
    elim c.in-Go-1.branch [
      | in-Go w ↦
          let some : 0 < w.in-Go.limit = search (rules, tests) in
          rw (p.1, p.2) (stride_refused g.T.AtomicInteger.arithmetic o parties past c.args.left.now c.args.left.now w.in-Go.limit c.in_err-stride-in-Go.field-0.0 c.args.machine.now c.stride.new.self w.in-Go.is some stands refused)
      | in-Go-2 w ↦
          let some : 0 < w.in-Go.limit = search (rules, tests) in
          rw (p.1, p.2) (stride_refused g.T.AtomicInteger.arithmetic o parties past c.args.left.now c.args.left.now w.in-Go.limit c.in_err-stride-in-Go.field-0.0 c.args.machine.now c.stride.new.self w.in-Go.is some stands refused)
    ]
