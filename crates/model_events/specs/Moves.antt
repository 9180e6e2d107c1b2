-- What may come next: where a call is, which inputs are refused, and which event any other input gives.
use Rattle.std.specs.Prelude.{◌≡◌, ℕ, ◌<◌, ◌^◌, nat_lt, Bool, true, false, ◌&&◌, is_some, is_none, if◌then◌else◌, List, [], ◌∷◌, Option, Some, None}
use Rattle.model_events.specs.Types.{Word, Call, Act, Then, Event, Input, StepFault, HoldKind}
use Rattle.model_events.specs.Arithmetic.{Arithmetic, IsValue}
use Rattle.model_events.specs.Rows.{carried_out, value_told, outcome_of, place_after}
use Rattle.model_events.specs.Tables.{Table}
use Rattle.model_events.specs.Past.{PendingCall, call_of, hold_of, word_in, latest_outcome}

-- Where a call is: one fold over its own events.

abbrev pub stage_after : {T P : Type 0} → Table T P → Act T → P → Option P
stage_after t (Act.Answered action) place = Some (t.answered place action)
stage_after t (Act.Chosen choice) place = Some (t.chosen place choice)
stage_after t act place = place_after (t.after place (value_told act))

abbrev pub next_stage : {T P : Type 0} → Table T P → Act T → Option P → Option P
next_stage t act None = None
next_stage t act (Some place) = stage_after t act place

abbrev pub stage_at : {T P : Type 0} → Table T P → Call T → List (Event T) → Option P
stage_at t call [] = t.begins call
stage_at t call (e ∷ own) = next_stage t e.act (stage_at t call own)

-- the place of a call under way
abbrev pub stage_of : {T P : Type 0} → Table T P → PendingCall T → Option P
stage_of t c = stage_at t c.call c.own

-- Who may begin what.

-- a party with a hold may begin no locking call
abbrev pub is_locking : {T : Type 0} → Call T → Bool
is_locking Call.Lock = true
is_locking Call.TryLock = true
is_locking Call.BlockingLock = true
is_locking Call.ReadLock = true
is_locking Call.TryReadLock = true
is_locking Call.WriteLock = true
is_locking Call.TryWriteLock = true
is_locking call = false

-- The faults, the first that applies.

abbrev pub hold_fault : {T P : Type 0} → Table T P → Call T → Option HoldKind → Option StepFault
hold_fault t call hold =
    if (is_locking call && is_some hold)
    then Some StepFault.Holding
    else (if (t.needs_hold call && is_none hold) then Some StepFault.NoHold else None)

abbrev pub begin_fault : {T P : Type 0} → Table T P → Option (PendingCall T) → Option HoldKind → Call T → Option StepFault
begin_fault t (Some c) hold call = Some StepFault.Busy
begin_fault t None hold call = if is_some (t.begins call) then hold_fault t call hold else Some StepFault.OtherObject

-- by how the call was left: at a closure it waits for an answer
abbrev pub go_fault : {T : Type 0} → Then T → Option StepFault
go_fault (Then.Waits seen) = Some StepFault.WaitingForAnswer
go_fault (Then.Chooses old) = Some StepFault.WaitingForAnswer
go_fault other = None

abbrev pub answer_fault : {T : Type 0} → Then T → Option StepFault
answer_fault (Then.Waits seen) = None
answer_fault other = Some StepFault.NotWaiting

abbrev pub choose_fault : {T : Type 0} → Then T → Option StepFault
choose_fault (Then.Chooses old) = None
choose_fault other = Some StepFault.NotWaiting

-- the fault of an input of a party that is there, by its call under way and its hold
abbrev pub fault_at : {T P : Type 0} → Table T P → Option (PendingCall T) → Option HoldKind → Input T → Option StepFault
fault_at t pending hold (Input.Begin call) = begin_fault t pending hold call
fault_at t None hold Input.Go = Some StepFault.Idle
fault_at t (Some c) hold Input.Go = go_fault (latest_outcome c.own)
fault_at t None hold (Input.Answer action) = Some StepFault.NotWaiting
fault_at t (Some c) hold (Input.Answer action) = answer_fault (latest_outcome c.own)
fault_at t None hold (Input.Choose choice) = Some StepFault.NotWaiting
fault_at t (Some c) hold (Input.Choose choice) = choose_fault (latest_outcome c.own)

-- the fault of an input after the events
abbrev pub fault_of : {T P : Type 0} → Table T P → ℕ → List (Event T) → ℕ → Input T → Option StepFault
fault_of t parties past party input =
    if nat_lt party parties
    then fault_at t (call_of party past) (hold_of t party past) input
    else Some StepFault.NoParty

-- The event of an input that is not refused.

-- what a party does at an input, and how its call goes on
pub record Move (T : Type 0) : Type 0 where
  pub act : Act T
  pub outcome : Then T

-- the step at a place
abbrev pub step_at : {T P : Type 0} → Table T P → P → Option HoldKind → (Word → ℕ) → Move T
step_at t place hold memory =
    record {
      act = carried_out (t.intent place hold) memory;
      outcome = outcome_of (t.after place (value_told (carried_out (t.intent place hold) memory)));
    }

abbrev pub step_of : {T P : Type 0} → Table T P → Option P → Option HoldKind → (Word → ℕ) → Option (Move T)
step_of t None hold memory = None
step_of t (Some place) hold memory = Some (step_at t place hold memory)

abbrev pub move_of : {T P : Type 0} → Table T P → Option (PendingCall T) → Option HoldKind → (Word → ℕ) → Input T → Option (Move T)
move_of t pending hold memory (Input.Begin call) = Some (record { act = Act.Begun call; outcome = Then.GoesOn })
move_of t pending hold memory (Input.Answer action) = Some (record { act = Act.Answered action; outcome = Then.GoesOn })
move_of t pending hold memory (Input.Choose choice) = Some (record { act = Act.Chosen choice; outcome = Then.GoesOn })
move_of t None hold memory Input.Go = None
move_of t (Some c) hold memory Input.Go = step_of t (stage_of t c) hold memory

-- the acts of a `Go`: all but a beginning and the answer of a closure
abbrev pub is_step : {T : Type 0} → Act T → Bool
is_step (Act.Begun call) = false
is_step (Act.Answered action) = false
is_step (Act.Chosen choice) = false
is_step act = true

-- Form: an event has the form of its input.
abbrev pub HasForm : {T : Type 0} → Input T → Act T → Type 0
HasForm (Input.Begin call) act = act ≡ Act.Begun call
HasForm Input.Go act = is_step act ≡ true
HasForm (Input.Answer action) act = act ≡ Act.Answered action
HasForm (Input.Choose choice) act = act ≡ Act.Chosen choice

-- The values that an input brings are values of their type.

abbrev pub CallValues : {T : Type 0} → Arithmetic T → Call T → Type 0
CallValues z (Call.Post n) = n < 2 ^ 64
CallValues z (Call.Store v) = IsValue z v
CallValues z (Call.Swap v) = IsValue z v
CallValues z (Call.CompareExchange v w) = IsValue z v × IsValue z w
CallValues z (Call.CompareExchangeWeak v w) = IsValue z v × IsValue z w
CallValues z (Call.FetchAdd v) = IsValue z v
CallValues z (Call.FetchSub v) = IsValue z v
CallValues z (Call.FetchAnd v) = IsValue z v
CallValues z (Call.FetchOr v) = IsValue z v
CallValues z (Call.FetchXor v) = IsValue z v
CallValues z (Call.FetchNand v) = IsValue z v
CallValues z (Call.FetchMax v) = IsValue z v
CallValues z (Call.FetchMin v) = IsValue z v
CallValues z call = Unit {0}

abbrev pub InputValues : {T : Type 0} → Arithmetic T → Input T → Type 0
InputValues z (Input.Begin call) = CallValues z call
InputValues z (Input.Choose (Some v)) = IsValue z v
InputValues z input = Unit {0}

-- after these events this event is the one that the input gives
pub record IsNext {T P : Type 0} (z : Arithmetic T) (t : Table T P) (parties : ℕ) (past : List (Event T)) (party : ℕ) (input : Input T) (event : Event T) : Type 0 where
  pub allowed : fault_of t parties past party input ≡ None
  pub values : InputValues z input
  pub party_is : event.party ≡ party
  pub form : HasForm input event.act
  pub moved : move_of t (call_of party past) (hold_of t party past) (word_in t past) input ≡ Some (record { act = event.act; outcome = event.then })
