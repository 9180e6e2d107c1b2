use Rattle.text_trace.proofs.Names.{map, string_bytes, texts_of, entries}
use Rattle.own_play.specs.Machine.{state_of}
use Rattle.text_own.specs.Table.{told_lock}
use Rattle.text_trace.proofs.OwnLaws.{walks_on, ends, stops}
use Rattle.text_trace.proofs.own.add_steps.Goals as goal

pub loop-step-preserved : goal.loop-step-preserved
loop-step-preserved c = (
  c.in-Ok-Some.ensures.countable,
  walks_on (map string_bytes c.args.names.now) (told_lock c.args.lock.now) c.loop-step.rest c.next_step.new.rest (state_of c.loop-step.machine) (state_of c.next_step.new.machine) _ (entries c.loop-step.rows.items) c.loop-step.invariant.1 _ c.in-Ok-Some.step
      (texts_of c.in_ok-cells-in-Ok-Some.cells) _ c.in-Ok-Some.field-0-is c.in-Ok-Some.ensures.step c.in_ok-cells-in-Ok-Some.ensures c.in_ok-add-in-Ok-Some.ensures,
)

pub returns-in-Ok-None : goal.returns-in-Ok-None
returns-in-Ok-None c =
    ends (map string_bytes c.args.names.now) (told_lock c.args.lock.now) c.loop-step.rest c.next_step.new.rest (state_of c.loop-step.machine) (state_of c.next_step.new.machine) _ (entries c.loop-step.rows.items) c.loop-step.invariant.1 _ c.in-Ok-None.field-0-is c.in-Ok-None.ensures.step

pub returns-in-Err : goal.returns-in-Err
returns-in-Err c =
    stops (map string_bytes c.args.names.now) (told_lock c.args.lock.now) c.loop-step.rest c.next_step.new.rest (state_of c.loop-step.machine) (state_of c.next_step.new.machine) _ (entries c.loop-step.rows.items) c.loop-step.invariant.1 c.in-Err.fault c.in-Err.ensures.step
