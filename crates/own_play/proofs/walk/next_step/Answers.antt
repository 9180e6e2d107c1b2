use Rattle.std.proofs.Common.{◌∙◌, ◌+◌, arith, rules}
use Rattle.std.proofs.Math.Nat.{le_refl}
use Rattle.sync_play.proofs.WalkLaws.{fewer_left}
use Rattle.text_own.specs.Table.{told_lock}
use Rattle.own_play.specs.Names.{lines_of}
use Rattle.own_play.specs.Machine.{state_of}
use Rattle.own_play.proofs.WalkLaws.{line_asks, line_fails, lines_end, steps_on, passes, stops, fewer_steps}
use Rattle.own_play.proofs.walk.next_step.Goals as goal

pub returns-in-Ok-Some-clause-step : goal.returns-in-Ok-Some-clause-step
returns-in-Ok-Some-clause-step c = let i = c.loop-event.invariant in steps_on (told_lock c.args.lock.now) (state_of c.loop-event.machine) _ (state_of c.next_event.new.machine) c.loop-event.rest.left c.next_event.new.left c.loop-event.rest.line _ _ i.2 i.3 _ c.in-Ok-Some.event c.in-Ok-Some.field-0-is c.in-Ok-Some.ensures.turn

pub returns-in-Err-clause-step : goal.returns-in-Err-clause-step
returns-in-Err-clause-step c = let i = c.loop-event.invariant in stops (told_lock c.args.lock.now) (state_of c.loop-event.machine) _ (state_of c.next_event.new.machine) c.loop-event.rest.left c.next_event.new.left c.loop-event.rest.line _ _ i.2 i.3 c.in-Err.fault c.in-Err.ensures.turn

pub returns-in_default-clause-step : goal.returns-in_default-clause-step
returns-in_default-clause-step c =
    let i = c.loop-event.invariant in
    let on = passes (told_lock c.args.lock.now) (state_of c.loop-event.machine) _ (state_of c.next_event.new.machine) c.loop-event.rest.left c.next_event.new.left c.loop-event.rest.line _ _ i.2 i.3 _ c.in-Ok-None.field-0-is c.in-Ok-None.ensures.turn in
    (on.0 ∙ lines_end (told_lock c.args.lock.now) (c.loop-event.rest.line + 1) (lines_of c.loop-event.rest.lines.now) _ (search rules), on.1)

pub overflow_add-rest : goal.overflow_add-rest
overflow_add-rest c = omega (arith, c.loop-event.invariant.0, c.in-Some.ensures.shorter)

pub loop-event-init : goal.loop-event-init
loop-event-init c = (c.requires.countable, le_refl _, search rules, search rules)

pub loop-event-preserved : goal.loop-event-preserved
loop-event-preserved c =
    let i = c.loop-event.invariant in
    let on = passes (told_lock c.args.lock.now) (state_of c.loop-event.machine) _ (state_of c.next_event.new.machine) c.loop-event.rest.left c.next_event.new.left c.loop-event.rest.line _ _ i.2 i.3 _ c.in-Ok-None.field-0-is c.in-Ok-None.ensures.turn in (
      omega (arith, i.0, c.in-Some.ensures.shorter),
      fewer_left _ _ _ _ _ i.1 c.in-Some.ensures.shorter c.in-Ok.ensures.within,
      on.1,
      on.0 ∙ line_asks (told_lock c.args.lock.now) (c.loop-event.rest.line + 1) (lines_of c.loop-event.rest.lines.now) c.in-Some.line.now c.in-Some.lines.now _ c.in-Some.ensures.lines c.in-Ok.command c.in-Ok.ensures.asked,
    )

pub returns-in-Err-asked_of-clause-step : goal.returns-in-Err-asked_of-clause-step
returns-in-Err-asked_of-clause-step c =
    let i = c.loop-event.invariant in
    let on = passes (told_lock c.args.lock.now) (state_of c.loop-event.machine) _ (state_of c.next_event.new.machine) c.loop-event.rest.left c.next_event.new.left c.loop-event.rest.line _ _ i.2 i.3 _ c.in-Ok-None.field-0-is c.in-Ok-None.ensures.turn in
    on.0 ∙ line_fails (told_lock c.args.lock.now) (c.loop-event.rest.line + 1) (lines_of c.loop-event.rest.lines.now) c.in-Some.line.now c.in-Some.lines.now _ c.in-Some.ensures.lines c.in-Err-asked_of.fault c.in-Err-asked_of.ensures.asked

pub returns-in-Err-asked_of-clause-countable : goal.returns-in-Err-asked_of-clause-countable
returns-in-Err-asked_of-clause-countable c = omega (arith, c.loop-event.invariant.0, c.in-Some.ensures.shorter)

pub returns-in-Ok-Some-clause-fewer : goal.returns-in-Ok-Some-clause-fewer
returns-in-Ok-Some-clause-fewer c = fewer_steps c.next_event.new.left c.loop-event.rest.left _ c.in-Ok-Some.event _ _ c.in-Ok-Some.field-0-is c.loop-event.invariant.1 c.in-Ok-Some.ensures.shorter
