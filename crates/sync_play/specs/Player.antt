-- The events that a command gives after the events so far, or the first fault.
use Rattle.std.specs.Prelude.{ℕ, zero, suc, ◌-◌, if◌then◌else◌, List, [], ◌∷◌, Option, Some, None, Result, Ok, Err}
use Rattle.sync_play.specs.Names.{Event, Input, Object, StepFault, Arithmetic, Move, goes_on, Stride, fault_of, move_of, Command, Task, LineFault, ◌>>=◌, line_fault_of}

abbrev pub event_by : {T : Type 0} → ℕ → Option (Move T) → Result (Event T) LineFault
event_by party (Some move) = Ok (record { party = party; act = move.act; «then» = move.outcome })
event_by party None = Err LineFault.Idle

abbrev pub unless_refused : {T : Type 0} → Option StepFault → Result (Event T) LineFault → Result (Event T) LineFault
unless_refused None event = event
unless_refused (Some fault) event = Err (line_fault_of fault)

-- so many steps of a party
unfoldable pub steps_of : {T : Type 0} → ℕ → ℕ → List (ℕ × Input T)
steps_of zero party = []
steps_of (suc steps) party = (party, Input.Go) ∷ steps_of steps party

-- how many steps a task makes at most
abbrev pub steps_left : {T : Type 0} → Task T → ℕ
steps_left (Task.Give input) = 1
steps_left (Task.Go n) = n
steps_left (Task.Run limit) = limit

-- what is left of a task after a stride of it
abbrev pub left_after : {T : Type 0} → Task T → Stride T → Task T
left_after (Task.Give input) stride = Task.Go 0
left_after (Task.Go steps) stride = Task.Go (steps - stride.times)
left_after (Task.Run limit) stride = if goes_on stride.event.then then Task.Run (limit - stride.times) else Task.Go 0

module _ {T : Type 0} (z : Arithmetic T) where
  -- the event that an input gives, or why it is refused
  unfoldable pub event_of : Object T → ℕ → List (Event T) → ℕ → Input T → Result (Event T) LineFault
  event_of o parties past party input =
      unless_refused (fault_of z o parties past party input)
      (event_by party (move_of z o past party input))

  -- the events of a schedule
  unfoldable pub events_of : Object T → ℕ → List (Event T) → List (ℕ × Input T) → Result (List (Event T)) LineFault
  events_of o parties past [] = Ok []
  events_of o parties past (turn ∷ schedule) = do
    event ← event_of o parties past turn.0 turn.1
    events ← events_of o parties (event ∷ past) schedule
    Ok (event ∷ events)

  -- the events of the shortest list of `Go`, of at least one and at most so many, whose last event answers or stands at a closure
  unfoldable pub run_of : Object T → ℕ → ℕ → List (Event T) → ℕ → Result (List (Event T)) LineFault
  run_of o parties zero past party = Err LineFault.StepLimit
  run_of o parties (suc steps) past party = do
    event ← event_of o parties past party Input.Go
    if goes_on event.then
        then (run_of o parties steps (event ∷ past) party >>= λ events. Ok (event ∷ events))
        else Ok (event ∷ [])

  -- the events of a task
  abbrev pub task_events : Object T → ℕ → List (Event T) → ℕ → Task T → Result (List (Event T)) LineFault
  task_events o parties past party (Task.Give input) = events_of o parties past ((party, input) ∷ [])
  task_events o parties past party (Task.Go n) = events_of o parties past (steps_of n party)
  task_events o parties past party (Task.Run limit) = run_of o parties limit past party

  abbrev pub command_events : Object T → ℕ → List (Event T) → Command T → Result (List (Event T)) LineFault
  command_events o parties past command = task_events o parties past command.party command.task
