use Rattle.std.proofs.Common.{◌≡◌, ◌+◌, ◌^◌, ◌<◌, ◌≤◌, length}
use Rattle.text_own.specs.Table.{told_lock}
use Rattle.own_play.specs.Names.{most_steps}
use Rattle.own_play.specs.Machine.{state_of}
use Rattle.own_play.specs.Walk.{rest_walk}
use Rattle.own_play.proofs.walk.next_step.Given as goal

-- no line so far asked for a step
abbrev pub invariant-loop-event : goal.invariant-loop-event
invariant-loop-event l =
    (l.rest.line + length l.rest.lines.now < 2 ^ 64) × (most_steps l.rest ≤ most_steps l.initial.rest) × (state_of l.machine ≡ state_of l.initial.machine) ×
    (rest_walk (told_lock l.lock) l.initial.rest (state_of l.initial.machine) ≡ rest_walk (told_lock l.lock) l.rest (state_of l.initial.machine))

abbrev pub decreases-loop-event : goal.decreases-loop-event
decreases-loop-event l = length l.rest.lines.now
