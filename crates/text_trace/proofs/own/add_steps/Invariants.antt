use Rattle.text_trace.proofs.Names.{◌≡◌, ◌+◌, ◌^◌, ◌<◌, length, map, string_bytes, entries}
use Rattle.own_play.specs.Machine.{state_of}
use Rattle.own_play.specs.Walk.{rest_walk}
use Rattle.sync_play.specs.Walk.{most_steps}
use Rattle.text_own.specs.Table.{told_lock}
use Rattle.text_trace.specs.Own.{traced}
use Rattle.text_trace.proofs.own.add_steps.Given as goal

-- the rows so far, and those to come
abbrev pub invariant-loop-step : goal.invariant-loop-step
invariant-loop-step l =
    let names = map string_bytes l.names in
    (l.rest.line + length l.rest.lines.now < 2 ^ 64) ×
    (traced names (rest_walk (told_lock l.lock) l.initial.rest (state_of l.initial.machine)) (entries l.initial.rows.items) ≡ traced names (rest_walk (told_lock l.lock) l.rest (state_of l.machine)) (entries l.rows.items))

abbrev pub decreases-loop-step : goal.decreases-loop-step
decreases-loop-step l = most_steps l.rest
