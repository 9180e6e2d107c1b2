-- The lines behind a table as a walk: its steps, each with the lock after it, up to their end or the first fault.
use Rattle.std.specs.Prelude.{◌≡◌, ℕ, zero, suc, ◌+◌, ◌++◌, Bool, false, is_none, List, [], ◌∷◌, Option, Some, None, Result, Ok, Err, if◌then◌else◌}
use Rattle.own_play.specs.Names.{◌>>=◌, entries_of, goes_on, Event, Input, StepFault, Object, event_lines, u64_numerals, asked, line_fault_of, lines_of, words_of, Command, Task, Step, Rest, FaultyLine, LineFault, Lock}
use Rattle.own_play.specs.Machine.{State, state_of, step}
use Rattle.own_play.specs.declared.machine.Machine.{Machine}

-- a step, and the lock after it
pub record Seen : Type 0 where
  pub step : Step ℕ
  pub after : State

-- the steps, in order, and the line with a fault that ends them early, if there is one
pub record Walk : Type 0 where
  pub steps : List Seen
  pub fault : Option FaultyLine

abbrev pub ended : Walk
ended = record { steps = []; fault = None }

abbrev pub stopped : ℕ → LineFault → Walk
stopped line fault = record { steps = []; fault = Some (record { line = line; fault = fault }) }

abbrev pub seen_then : ℕ → Event ℕ → State → Walk → Walk
seen_then line e s walk = record { steps = record { step = record { line = line; event = e }; after = s } ∷ walk.steps; fault = walk.fault }

-- the step that a line asks for, and then the others; or its fault
abbrev pub step_then : ℕ → Result (Event ℕ × State) StepFault → (Event ℕ → State → Walk) → Walk
step_then line (Ok it) others = seen_then line it.0 it.1 (others it.0 it.1)
step_then line (Err fault) others = stopped line (line_fault_of fault)

module _ (lock : Lock) (line party : ℕ) where
  -- so many steps, and then the others
  abbrev pub go_walk : ℕ → State → (State → Walk) → Walk
  go_walk zero s others = others s
  go_walk (suc steps) s others = step_then line (step lock s party Input.Go) (λ _ after. go_walk steps after others)

  -- at least one step and at most so many, until the call has answered or stands at a closure
  abbrev pub run_walk : ℕ → State → (State → Walk) → Walk
  run_walk zero s others = stopped line LineFault.StepLimit
  run_walk (suc steps) s others = step_then line (step lock s party Input.Go) (λ e after. if goes_on e.then then run_walk steps after others else others after)

  abbrev pub task_walk : Task ℕ → State → (State → Walk) → Walk
  task_walk (Task.Give input) s others = step_then line (step lock s party input) (λ _ after. others after)
  task_walk (Task.Go steps) s others = go_walk steps s others
  task_walk (Task.Run limit) s others = run_walk limit s others

abbrev pub asked_walk : Lock → ℕ → Result (Command ℕ) LineFault → State → (State → Walk) → Walk
asked_walk lock line (Ok command) s others = task_walk lock line command.party command.task s others
asked_walk lock line (Err fault) s others = stopped line fault

abbrev pub lacks : Lock → Task ℕ → Bool
lacks lock (Task.Give (Input.Begin call)) = is_none (entries_of lock.calls call)
lacks lock task = false

-- A line asks what a line of a text of a mutex asks; a call that the lock has not is an unknown word.
abbrev pub asked_of : Lock → List (List ℕ) → Result (Command ℕ) LineFault
asked_of lock words = asked u64_numerals Object.Mutex words >>= λ command. if lacks lock command.task then Err LineFault.BadLine else Ok command

-- the lines from this number on
abbrev pub lines_walk : Lock → ℕ → List (List ℕ) → State → Walk
lines_walk lock line [] s = ended
lines_walk lock line (next ∷ lines) s = asked_walk lock line (asked_of lock (words_of next)) s (λ after. lines_walk lock (line + 1) lines after)

-- what is left of a line, and the lines after it
abbrev pub rest_walk : Lock → Rest ℕ → State → Walk
rest_walk lock rest s = task_walk lock rest.line rest.left.party rest.left.task s (λ after. lines_walk lock (rest.line + 1) (lines_of rest.lines.now) after)

-- the input with which a task goes on
abbrev pub input_of : Task ℕ → Input ℕ
input_of (Task.Give input) = input
input_of other = Input.Go

-- What is told of a command that has a step left, and what it leaves: the next step, or the fault, whatever the line and what comes after it.
abbrev pub IsStep : Lock → State → Command ℕ → State → Command ℕ → Result (Event ℕ) LineFault → Type 0
IsStep lock s old s' new (Ok e) = (line : ℕ) (others : State → Walk) → task_walk lock line old.party old.task s others ≡ seen_then line e s' (task_walk lock line new.party new.task s' others)
IsStep lock s old s' new (Err fault) = (line : ℕ) (others : State → Walk) → task_walk lock line old.party old.task s others ≡ stopped line fault

-- the same of any command: of one that is done there is none
abbrev pub IsTurn : Lock → State → Command ℕ → State → Command ℕ → Result (Option (Event ℕ)) LineFault → Type 0
IsTurn lock s old s' new (Ok None) = ((line : ℕ) (others : State → Walk) → task_walk lock line old.party old.task s others ≡ others s) × (s' ≡ s)
IsTurn lock s old s' new (Ok (Some e)) = IsStep lock s old s' new (Ok e)
IsTurn lock s old s' new (Err fault) = IsStep lock s old s' new (Err fault)

-- and of a text
abbrev pub IsNextStep : Lock → State → Rest ℕ → State → Rest ℕ → Result (Option (Step ℕ)) FaultyLine → Type 0
IsNextStep lock s old s' new (Ok None) = (rest_walk lock old s ≡ ended) × (s' ≡ s)
IsNextStep lock s old s' new (Ok (Some step)) = rest_walk lock old s ≡ seen_then step.line step.event s' (rest_walk lock new s')
IsNextStep lock s old s' new (Err fault) = rest_walk lock old s ≡ stopped fault.line fault.fault

-- the lock after the steps
abbrev pub last_of : State → List Seen → State
last_of s [] = s
last_of s (seen ∷ steps) = last_of seen.after steps

-- what the events print, behind what was printed
abbrev pub printed_onto : List Seen → List ℕ → List ℕ
printed_onto [] bytes = bytes
printed_onto (seen ∷ steps) bytes = printed_onto steps (bytes ++ event_lines u64_numerals seen.step.event)

-- where the lock is, and what was printed
pub record Played : Type 0 where
  pub state : State
  pub bytes : List ℕ

abbrev pub standing : Machine → List ℕ → Played
standing machine bytes = record { state = state_of machine; bytes = bytes }

abbrev pub unless : Option FaultyLine → Played → Result Played FaultyLine
unless None p = Ok p
unless (Some fault) p = Err fault

-- what comes of a walk
abbrev pub played : Walk → Played → Result Played FaultyLine
played walk p = unless walk.fault (record { state = last_of p.state walk.steps; bytes = printed_onto walk.steps p.bytes })
