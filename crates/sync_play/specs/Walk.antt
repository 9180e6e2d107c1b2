-- A text as a walk: its steps, each with the line that asked for it, up to its end or its first fault.
use Rattle.std.specs.Prelude.{◌≡◌, ℕ, zero, suc, ◌+◌, ◌*◌, ◌^◌, length, replicate, if◌then◌else◌, List, [], ◌∷◌, Option, Some, None, Result, Ok, Err}
use Rattle.sync_play.specs.Names.{Event, Input, Object, Arithmetic, after, goes_on, EventStride, Configuration, StandsAt, Command, Task, LineFault, Header, command_of, ◌>>=◌, header_of, lines_of, words_of, Numerals, FaultyLine}
use Rattle.sync_play.specs.Player.{event_of, steps_left}
use Rattle.sync_play.specs.declared.walk.Step.{Step}
use Rattle.sync_play.specs.declared.walk.Stride.{Stride}
use Rattle.sync_play.specs.declared.walk.Rest.{Rest}

-- the steps, in order, and the line with a fault that ends them early, if there is one
pub record Walk (T : Type 0) : Type 0 where
  pub steps : List (Step T)
  pub fault : Option FaultyLine

-- nothing more is asked
abbrev pub ended : {T : Type 0} → Walk T
ended = record { steps = []; fault = None }

-- a line is refused
abbrev pub stopped : {T : Type 0} → ℕ → LineFault → Walk T
stopped line fault = record { steps = []; fault = Some (record { line = line; fault = fault }) }

abbrev pub step_then : {T : Type 0} → Step T → Walk T → Walk T
step_then step walk = record { steps = step ∷ walk.steps; fault = walk.fault }

abbrev pub steps_then : {T : Type 0} → List (Step T) → Walk T → Walk T
steps_then [] walk = walk
steps_then (step ∷ steps) walk = step_then step (steps_then steps walk)

-- an event that a line asks for, and then the others; or its fault
abbrev pub event_then : {T : Type 0} → ℕ → Result (Event T) LineFault → (Event T → Walk T) → Walk T
event_then line (Ok e) others = step_then (record { line = line; event = e }) (others e)
event_then line (Err fault) others = stopped line fault

-- a line without words asks for no step
abbrev pub nothing : {T : Type 0} → Command T
nothing = record { party = 0; task = Task.Go 0 }

abbrev pub or_nothing : {T : Type 0} → Option (Command T) → Command T
or_nothing None = nothing
or_nothing (Some command) = command

abbrev pub opened_by : {T : Type 0} → Result (Header T) LineFault → List (List ℕ) → Result (Header T × List (List ℕ)) FaultyLine
opened_by (Ok header) lines = Ok (header, lines)
opened_by (Err fault) lines = Err (record { line = 1; fault = fault })

-- how many steps are left at most: of this line, and of the lines after it
abbrev pub most_steps : {T : Type 0} → Rest T → ℕ
most_steps rest = steps_left rest.left.task + length rest.lines.now * 2 ^ 64

-- after so many of the event
abbrev pub after_times : {T : Type 0} → ℕ → Event T → List (Event T) → List (Event T)
after_times times e past = after (replicate times e) past

module _ {T : Type 0} (z : Arithmetic T) where
  -- so many steps of a party, and then the others after those
  unfoldable pub go_walk : Object T → ℕ → ℕ → ℕ → List (Event T) → ℕ → (List (Event T) → Walk T) → Walk T
  go_walk o parties line zero past party others = others past
  go_walk o parties line (suc steps) past party others =
      event_then line (event_of z o parties past party Input.Go) (λ e. go_walk o parties line steps (e ∷ past) party others)

  -- at least one step and at most so many, until the call has answered or stands at a closure
  unfoldable pub run_walk : Object T → ℕ → ℕ → ℕ → List (Event T) → ℕ → (List (Event T) → Walk T) → Walk T
  run_walk o parties line zero past party others = stopped line LineFault.StepLimit
  run_walk o parties line (suc steps) past party others =
      event_then line (event_of z o parties past party Input.Go)
      (λ e. if goes_on e.then then run_walk o parties line steps (e ∷ past) party others else others (e ∷ past))

  -- what a line asks of a party, and then the others
  abbrev pub task_walk : Object T → ℕ → ℕ → List (Event T) → ℕ → Task T → (List (Event T) → Walk T) → Walk T
  task_walk o parties line past party (Task.Give input) others = event_then line (event_of z o parties past party input) (λ e. others (e ∷ past))
  task_walk o parties line past party (Task.Go steps) others = go_walk o parties line steps past party others
  task_walk o parties line past party (Task.Run steps) others = run_walk o parties line steps past party others

  abbrev pub line_walk : Object T → ℕ → ℕ → List (Event T) → Result (Command T) LineFault → (List (Event T) → Walk T) → Walk T
  line_walk o parties line past (Ok command) others = task_walk o parties line past command.party command.task others
  line_walk o parties line past (Err fault) others = stopped line fault

  -- Strides: equal steps in a row.

  -- The next so many events of a command are this one, and what is left of it asks for the others, whatever the line and what comes after it.
  abbrev pub Gives : Object T → ℕ → List (Event T) → Command T → Command T → ℕ → Event T → Type 0
  Gives o parties past old new times e =
      (line : ℕ) (others : List (Event T) → Walk T) → task_walk o parties line past old.party old.task others ≡
      steps_then (replicate times (record { line = line; event = e })) (task_walk o parties line (after_times times e past) new.party new.task others)

  -- What the player tells of a command after the past, and what it leaves of it: all was done, or the next events, equal ones in a row, or the fault
  -- of the command. But for a fault, the machine stands after what was told.
  abbrev pub IsTurn : Object T → ℕ → List (Event T) → Command T → Command T → Configuration T → Result (Option (EventStride T)) LineFault → Type 0
  IsTurn o parties past old new machine (Ok None) =
      ((line : ℕ) (others : List (Event T) → Walk T) → task_walk o parties line past old.party old.task others ≡ others past) × StandsAt z o parties past machine
  IsTurn o parties past old new machine (Ok (Some stride)) =
      Gives o parties past old new stride.times stride.event × StandsAt z o parties (after_times stride.times stride.event past) machine
  IsTurn o parties past old new machine (Err fault) =
      (line : ℕ) (others : List (Event T) → Walk T) → task_walk o parties line past old.party old.task others ≡ stopped line fault

module _ {T : Type 0} (numerals : Numerals T) where
  -- what the words of a line ask
  abbrev pub asked : Object T → List (List ℕ) → Result (Command T) LineFault
  asked o words = command_of numerals o words >>= λ command. Ok (or_nothing command)

  -- the object and the parties that the first line names, and the lines after it; or the fault of that line
  abbrev pub opened : List (List ℕ) → Result (Header T × List (List ℕ)) FaultyLine
  opened [] = Err (record { line = 1; fault = LineFault.NoObject })
  opened (line ∷ lines) = opened_by (header_of numerals (words_of line)) lines

module _ {T : Type 0} (z : Arithmetic T) (numerals : Numerals T) where
  -- the lines from line `number` on, after the events so far, newest first
  unfoldable pub lines_walk : Object T → ℕ → ℕ → List (List ℕ) → List (Event T) → Walk T
  lines_walk o parties number [] past = ended
  lines_walk o parties number (line ∷ lines) past =
      line_walk z o parties number past (asked numerals o (words_of line)) (λ there. lines_walk o parties (number + 1) lines there)

  -- what is left of line `number`, and the lines after it
  abbrev pub walk_from : Object T → ℕ → List (Event T) → ℕ → Command T → List ℕ → Walk T
  walk_from o parties past number left lines =
      task_walk z o parties number past left.party left.task (λ there. lines_walk o parties (number + 1) (lines_of lines) there)

  abbrev pub rest_walk : Object T → ℕ → List (Event T) → Rest T → Walk T
  rest_walk o parties past rest = walk_from o parties past rest.line rest.left rest.lines.now

  -- What a walker tells of the rest after the past, and what it leaves: nothing more is asked, or the next steps, equal ones in a row, or the fault.
  -- But for a fault, the machine stands after what was told.
  abbrev pub IsNextStride : Object T → ℕ → List (Event T) → Rest T → Rest T → Configuration T → Result (Option (Stride T)) FaultyLine → Type 0
  IsNextStride o parties past old new machine (Ok None) = (rest_walk o parties past old ≡ ended) × StandsAt z o parties past machine
  IsNextStride o parties past old new machine (Ok (Some stride)) =
      (rest_walk o parties past old ≡ steps_then (replicate stride.times stride.step) (rest_walk o parties (after_times stride.times stride.step.event past) new))
      × StandsAt z o parties (after_times stride.times stride.step.event past) machine
  IsNextStride o parties past old new machine (Err fault) = rest_walk o parties past old ≡ stopped fault.line fault.fault
