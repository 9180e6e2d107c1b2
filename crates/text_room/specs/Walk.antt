-- A text of several objects as a walk: its steps, each with the line that asked for it, up to its end or its first fault.
use Rattle.std.specs.Prelude.{◌≡◌, ℕ, zero, suc, ◌+◌, ◌*◌, ◌^◌, ◌-◌, List, [], ◌∷◌, length, replicate, Option, Some, None, Result, Ok, Err, if◌then◌else◌, slice_get, codes, ◌++◌, map}
use Rattle.text_room.specs.Names.{Arithmetic, Move, goes_on, after, Input, Object, line_fault_of, ◌>>=◌, lines_of, words_of, Numerals, parties_of, let_of, bytes_eq, room_command_of, at_line, Task, FaultyLine, LineFault, RoomCommand, RoomEvent, RoomStride, RoomFault, Seating, StandsAt, events_of, seat_of, fault_of, steps_left}
use Rattle.sync_steps.specs.Runs as steps
use Rattle.text_room.specs.declared.walk.Group.{Group}
use Rattle.text_room.specs.declared.walk.Rest.{Rest}
use Rattle.text_room.specs.declared.walk.Step.{Step}
use Rattle.text_room.specs.declared.walk.Stride.{Stride}

-- the steps, in order, and the line with a fault that ends them early, if there is one
pub record Walk (T : Type 0) : Type 0 where
  pub steps : List (Step T)
  pub fault : Option FaultyLine

-- nothing more is asked
abbrev pub ended : {T : Type 0} → Walk T
ended = record { steps = []; fault = None }

-- a line is refused
abbrev pub stopped : {T : Type 0} → ℕ → LineFault → Walk T
stopped line fault = record { steps = []; fault = Some (record { line = line; fault = fault }) }

abbrev pub step_then : {T : Type 0} → Step T → Walk T → Walk T
step_then step walk = record { steps = step ∷ walk.steps; fault = walk.fault }

abbrev pub steps_then : {T : Type 0} → List (Step T) → Walk T → Walk T
steps_then [] walk = walk
steps_then (step ∷ steps) walk = step_then step (steps_then steps walk)

-- an event that a line asks for, and then the others; or its fault
abbrev pub event_then : {T : Type 0} → ℕ → Result (RoomEvent T) LineFault → (RoomEvent T → Walk T) → Walk T
event_then line (Ok e) others = step_then (record { line = line; event = e }) (others e)
event_then line (Err fault) others = stopped line fault

-- what is left of a task after a stride of it
abbrev pub left_after : {T : Type 0} → Task T → RoomStride T → Task T
left_after (Task.Give input) stride = Task.Go 0
left_after (Task.Go steps) stride = Task.Go (steps - stride.times)
left_after (Task.Run limit) stride = if goes_on stride.event.event.then then Task.Run (limit - stride.times) else Task.Go 0

-- What a room refuses, as a fault of the line.
abbrev pub line_fault : RoomFault → LineFault
line_fault RoomFault.NoObject = LineFault.NoObject
line_fault (RoomFault.Step fault) = line_fault_of fault

-- the object of an input: the one that is named, else the one at which the party has its call, else the first
abbrev pub where_of : Option ℕ → Option ℕ → ℕ
where_of (Some k) seat = k
where_of None (Some k) = k
where_of None None = 0

abbrev pub event_by : {T : Type 0} → ℕ → ℕ → Option (Move T) → Result (RoomEvent T) LineFault
event_by party k (Some move) = Ok (record { object = k; event = record { party = party; act = move.act; «then» = move.outcome } })
event_by party k None = Err LineFault.Idle

abbrev pub unless_refused : {T : Type 0} → Option RoomFault → Result (RoomEvent T) LineFault → Result (RoomEvent T) LineFault
unless_refused None event = event
unless_refused (Some fault) event = Err (line_fault fault)

-- after so many of the event
abbrev pub after_times : {T : Type 0} → ℕ → RoomEvent T → List (RoomEvent T) → List (RoomEvent T)
after_times times e past = after (replicate times e) past

module _ {T : Type 0} (z : Arithmetic T) where
  abbrev pub move_there : Option (Object T) → List (RoomEvent T) → ℕ → ℕ → Input T → Option (Move T)
  move_there None past party k input = None
  move_there (Some o) past party k input = steps.move_of z o (events_of k past) party input

  -- the event that an input gives at an object, or why it is refused
  unfoldable pub event_at : List (Object T) → ℕ → List (RoomEvent T) → ℕ → ℕ → Input T → Result (RoomEvent T) LineFault
  event_at objects parties past party k input = unless_refused (fault_of z objects parties past party k input) (event_by party k (move_there (slice_get objects k) past party k input))

  -- of the object of the input
  abbrev pub event_of : List (Object T) → ℕ → List (RoomEvent T) → ℕ → Option ℕ → Input T → Result (RoomEvent T) LineFault
  event_of objects parties past party named input = event_at objects parties past party (where_of named (seat_of party past)) input

  -- so many steps of a party, and then the others after those
  unfoldable pub go_walk : List (Object T) → ℕ → ℕ → ℕ → List (RoomEvent T) → ℕ → (List (RoomEvent T) → Walk T) → Walk T
  go_walk objects parties line zero past party others = others past
  go_walk objects parties line (suc steps) past party others =
      event_then line (event_of objects parties past party None Input.Go) (λ e. go_walk objects parties line steps (e ∷ past) party others)

  -- at least one step and at most so many, until the call has answered or stands at a closure
  unfoldable pub run_walk : List (Object T) → ℕ → ℕ → ℕ → List (RoomEvent T) → ℕ → (List (RoomEvent T) → Walk T) → Walk T
  run_walk objects parties line zero past party others = stopped line LineFault.StepLimit
  run_walk objects parties line (suc steps) past party others =
      event_then line (event_of objects parties past party None Input.Go)
      (λ e. if goes_on e.event.then then run_walk objects parties line steps (e ∷ past) party others else others (e ∷ past))

  -- what a line asks of a party, and then the others
  abbrev pub task_walk : List (Object T) → ℕ → ℕ → List (RoomEvent T) → ℕ → Option ℕ → Task T → (List (RoomEvent T) → Walk T) → Walk T
  task_walk objects parties line past party named (Task.Give input) others = event_then line (event_of objects parties past party named input) (λ e. others (e ∷ past))
  task_walk objects parties line past party named (Task.Go steps) others = go_walk objects parties line steps past party others
  task_walk objects parties line past party named (Task.Run steps) others = run_walk objects parties line steps past party others

  -- the next so many events of a command are this one, and what is left of it asks for the others, whatever the line and what comes after it
  abbrev pub Gives : List (Object T) → ℕ → List (RoomEvent T) → RoomCommand T → RoomCommand T → ℕ → RoomEvent T → Type 0
  Gives objects parties past old new times e =
      (line : ℕ) (others : List (RoomEvent T) → Walk T) → task_walk objects parties line past old.party old.named old.task others ≡
      steps_then (replicate times (record { line = line; event = e })) (task_walk objects parties line (after_times times e past) new.party new.named new.task others)

  -- What the player tells of a command after the past, and what it leaves of it: all was done, or the next events, equal ones in a row, or the fault of
  -- the command. But for a fault, the room stands after what was told.
  abbrev pub IsTurn : List (Object T) → ℕ → List (RoomEvent T) → RoomCommand T → RoomCommand T → Seating T → Result (Option (RoomStride T)) LineFault → Type 0
  IsTurn objects parties past old new room (Ok None) =
      ((line : ℕ) (others : List (RoomEvent T) → Walk T) → task_walk objects parties line past old.party old.named old.task others ≡ others past) × StandsAt z objects parties past room
  IsTurn objects parties past old new room (Ok (Some stride)) =
      Gives objects parties past old new stride.times stride.event × StandsAt z objects parties (after_times stride.times stride.event past) room
  IsTurn objects parties past old new room (Err fault) =
      (line : ℕ) (others : List (RoomEvent T) → Walk T) → task_walk objects parties line past old.party old.named old.task others ≡ stopped line fault

-- a line without words asks for no step
abbrev pub nothing : {T : Type 0} → RoomCommand T
nothing = record { party = 0; named = None; task = Task.Go 0 }

abbrev pub or_nothing : {T : Type 0} → Option (RoomCommand T) → RoomCommand T
or_nothing None = nothing
or_nothing (Some command) = command

-- how many steps are left at most: of this line, and of the lines after it
abbrev pub most_steps : {T : Type 0} → Rest T → ℕ
most_steps rest = steps_left rest.left.task + length rest.lines.now * 2 ^ 64

-- what the first lines name, the number of the last of these, and the lines after it
pub record Opened (T : Type 0) : Type 0 where
  pub parties : ℕ
  pub names : List (List ℕ)
  pub objects : List (Object T)
  pub line : ℕ
  pub lines : List (List ℕ)

-- as the code tells it
abbrev pub told : {T A : Type 0} → Group T A → Rest T → Opened T
told group rest = record { parties = group.parties; names = map (λ name. name.now) group.names.items; objects = group.objects.items; line = rest.line; lines = lines_of rest.lines.now }

-- what a line is after the first: empty, or it names an object by the words after its first, or it is another
abbrev pub by_line : {A : Type 0} → List (List ℕ) → A → (List (List ℕ) → A) → A → A
by_line [] empty naming other = empty
by_line (word ∷ words) empty naming other = if bytes_eq word (codes "let") then naming words else other

module _ {T : Type 0} (numerals : Numerals T) where
  -- The lines up to the first that has words and names no object. Line `line` was read last.
  unfoldable pub opened_from : ℕ → List (List ℕ) → List (Object T) → ℕ → List (List ℕ) → Result (Opened T) FaultyLine
  opened_from parties names objects line [] = Ok (record { parties = parties; names = names; objects = objects; line = line; lines = [] })
  opened_from parties names objects line (next ∷ lines) =
      by_line (words_of next)
      (opened_from parties names objects (line + 1) lines)
      (λ words. at_line (line + 1) (let_of numerals names words) >>= λ named. opened_from parties (names ++ named.0 ∷ []) (objects ++ named.1 ∷ []) (line + 1) lines)
      (Ok (record { parties = parties; names = names; objects = objects; line = line; lines = next ∷ lines }))

  abbrev pub opened : List (List ℕ) → Result (Opened T) FaultyLine
  opened [] = Err (record { line = 1; fault = LineFault.NoObject })
  opened (first ∷ lines) = at_line 1 (parties_of (words_of first)) >>= λ parties. opened_from parties [] [] 1 lines

  -- what the words of another line ask
  abbrev pub asked : List (List ℕ) → List (Object T) → List (List ℕ) → Result (RoomCommand T) LineFault
  asked names objects words = room_command_of numerals names objects words >>= λ command. Ok (or_nothing command)

module _ {T : Type 0} (z : Arithmetic T) where
  abbrev pub line_walk : List (Object T) → ℕ → ℕ → List (RoomEvent T) → Result (RoomCommand T) LineFault → (List (RoomEvent T) → Walk T) → Walk T
  line_walk objects parties line past (Ok command) others = task_walk z objects parties line past command.party command.named command.task others
  line_walk objects parties line past (Err fault) others = stopped line fault

module _ {T : Type 0} (z : Arithmetic T) (numerals : Numerals T) (names : List (List ℕ)) (objects : List (Object T)) (parties : ℕ) where
  -- the lines from line `number` on, after the events so far, newest first
  unfoldable pub lines_walk : ℕ → List (List ℕ) → List (RoomEvent T) → Walk T
  lines_walk number [] past = ended
  lines_walk number (line ∷ lines) past = line_walk z objects parties number past (asked numerals names objects (words_of line)) (λ there. lines_walk (number + 1) lines there)

  -- what is left of line `number`, and the lines after it
  abbrev pub walk_from : List (RoomEvent T) → ℕ → RoomCommand T → List ℕ → Walk T
  walk_from past number left lines = task_walk z objects parties number past left.party left.named left.task (λ there. lines_walk (number + 1) (lines_of lines) there)

  abbrev pub rest_walk : List (RoomEvent T) → Rest T → Walk T
  rest_walk past rest = walk_from past rest.line rest.left rest.lines.now

  -- What a walker tells of the rest after the past, and what it leaves: nothing more is asked, or the next steps, equal ones in a row, or the fault.
  -- But for a fault, the room stands after what was told.
  abbrev pub IsNextStride : List (RoomEvent T) → Rest T → Rest T → Seating T → Result (Option (Stride T)) FaultyLine → Type 0
  IsNextStride past old new room (Ok None) = (rest_walk past old ≡ ended) × StandsAt z objects parties past room
  IsNextStride past old new room (Ok (Some stride)) =
      (rest_walk past old ≡ steps_then (replicate stride.times stride.step) (rest_walk (after_times stride.times stride.step.event past) new))
      × StandsAt z objects parties (after_times stride.times stride.step.event past) room
  IsNextStride past old new room (Err fault) = rest_walk past old ≡ stopped fault.line fault.fault
