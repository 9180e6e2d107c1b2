-- Runs of an object: those of its table, where what it is opened with is a value of its type.
use Rattle.std.specs.Prelude.{ℕ, List, Option}
use Rattle.sync_steps.specs.Names.{Event, Input, Object, StepFault, Word, Arithmetic, Hold, Move}
use Rattle.model_events.specs.Past as pasts
use Rattle.model_events.specs.Moves as moves
use Rattle.model_events.specs.Runs as runs
use Rattle.sync_steps.specs.Objects.{table_of, IsObject}

-- what a word holds after the events
abbrev pub word_in : {T : Type 0} → Arithmetic T → Object T → List (Event T) → Word → ℕ
word_in z o past word = pasts.word_in (table_of z o) past word

-- the holds that there are after the events
abbrev pub holds_of : {T : Type 0} → Arithmetic T → Object T → List (Event T) → List Hold
holds_of z o past = pasts.holds_of (table_of z o) past

-- the fault of an input after the events, if it has one
abbrev pub fault_of : {T : Type 0} → Arithmetic T → Object T → ℕ → List (Event T) → ℕ → Input T → Option StepFault
fault_of z o parties past party input = moves.fault_of (table_of z o) parties past party input

-- what the party does at the input after the events, and how its call goes on, if it does anything
abbrev pub move_of : {T : Type 0} → Arithmetic T → Object T → List (Event T) → ℕ → Input T → Option (Move T)
move_of z o past party input = moves.move_of (table_of z o) (pasts.call_of party past) (pasts.hold_of (table_of z o) party past) (word_in z o past) input

-- after these events this event is the one that the input gives
abbrev pub IsNext : {T : Type 0} → Arithmetic T → Object T → ℕ → List (Event T) → ℕ → Input T → Event T → Type 0
IsNext z o parties past party input event = moves.IsNext z (table_of z o) parties past party input event

-- the events are those of some schedule, newest first
abbrev pub IsPast : {T : Type 0} → Arithmetic T → Object T → ℕ → List (Event T) → Type 0
IsPast z o parties past = IsObject z o × runs.IsPast z (table_of z o) parties past

-- after the past, the events are those of the schedule: one for each input, in order
abbrev pub IsRun : {T : Type 0} → Arithmetic T → Object T → ℕ → List (Event T) → List (ℕ × Input T) → List (Event T) → Type 0
IsRun z o parties past schedule events = runs.IsRunBy (λ past turn e. IsNext z o parties past turn.0 turn.1 e) past schedule events
