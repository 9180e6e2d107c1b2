-- What one input makes a party of a machine do: what the functions of `src/steps/turn.rt` answer.
use Rattle.std.specs.Prelude.{◌≡◌, ℕ, zero, Bool, true, false, ◌&&◌, is_some, is_none, Option, Some, None, Result, Ok, Err, if◌then◌else◌}
use Rattle.sync_steps.specs.Names.{WaitAction, Act, Call, Input, Object, StepFault, Then, Word, HoldKind, After, Arithmetic, carried_out, value_told, outcome_of, is_release, hold_or, is_locking}
use Rattle.sync_steps.specs.declared.steps.place.Closure.{Closure}
use Rattle.sync_steps.specs.declared.steps.place.Doing.{Doing}
use Rattle.sync_steps.specs.declared.steps.place.Party.{Party}
use Rattle.sync_steps.specs.declared.steps.place.Place.{Place}
use Rattle.sync_steps.specs.Machine.Places.{begins_at, intent_at, after_at, answered_at, chosen_at, grant_at, needs_hold_at}

-- what a party does at an input, how its call goes on, and the party after it
pub record Turn (T : Type 0) : Type 0 where
  pub act : Act T
  pub outcome : Then T
  pub party : Party T

-- A party had this turn, or the fault in its place. What it did, and how its call goes on, is the answer.
abbrev pub TurnsTo : {T : Type 0} → Result (Turn T) StepFault → Party T → Party T → Result (Act T × Then T) StepFault → Type 0
TurnsTo turned old new (Ok told) = turned ≡ Ok (record { act = told.0; outcome = told.1; party = new })
TurnsTo turned old new (Err fault) = (turned ≡ Err fault) × (new ≡ old)

-- the hold that an act of a call takes
abbrev pub hold_won : {T : Type 0} → Arithmetic T → Object T → Call T → Act T → Option HoldKind
hold_won z o call (Act.Exchange Word.State from to found true) = grant_at z o call from to
hold_won z o call (Act.Swap Word.State zero put) = grant_at z o call 0 put
hold_won z o call act = None

abbrev pub new_hold : {T : Type 0} → Arithmetic T → Object T → Call T → Act T → Option HoldKind → Option HoldKind
new_hold z o call act hold = if is_release act then None else hold_or (hold_won z o call act) hold

abbrev pub doing_after : {T : Type 0} → Call T → After T (Place T) → Option (Doing T)
doing_after call (After.At place) = Some (record { call = call; place = place; stands = None })
doing_after call (After.Waits place seen) = Some (record { call = call; place = place; stands = Some Closure.Wait })
doing_after call (After.Chooses place old) = Some (record { call = call; place = place; stands = Some Closure.Choice })
doing_after call (After.Ends answer) = None

abbrev pub moved_on : {T : Type 0} → Option (Doing T) → After T (Place T) → Option (Doing T)
moved_on None after = None
moved_on (Some doing) after = doing_after doing.call after

-- a party begins a call at this place
abbrev pub begun : {T : Type 0} → Party T → Call T → Place T → Turn T
begun party call place =
    record {
      act = Act.Begun call;
      outcome = Then.GoesOn;
      party = record { doing = Some (record { call = call; place = place; stands = None }); hold = party.hold };
    }

abbrev pub begin_at : {T : Type 0} → Arithmetic T → Object T → Party T → Call T → Option (Place T) → Result (Turn T) StepFault
begin_at z o party call None = Err StepFault.OtherObject
begin_at z o party call (Some place) =
    if (is_locking call && is_some party.hold)
    then Err StepFault.Holding
    else (if (needs_hold_at z o call && is_none party.hold) then Err StepFault.NoHold else Ok (begun party call place))

abbrev pub begin_turn : {T : Type 0} → Arithmetic T → Object T → Party T → Call T → Result (Turn T) StepFault
begin_turn z o party call = if is_some party.doing then Err StepFault.Busy else begin_at z o party call (begins_at z o call)

-- after an act of a call that goes on so
abbrev pub turn_after : {T : Type 0} → Arithmetic T → Object T → Call T → Option HoldKind → Act T → After T (Place T) → Turn T
turn_after z o call hold act after =
    record { act = act; outcome = outcome_of after; party = record { doing = doing_after call after; hold = new_hold z o call act hold } }

-- the step at the place of a call
abbrev pub stepped_by : {T : Type 0} → Arithmetic T → Object T → Doing T → Option HoldKind → Act T → Turn T
stepped_by z o doing hold act = turn_after z o doing.call hold act (after_at z doing.place (value_told act))

abbrev pub stepped : {T : Type 0} → Arithmetic T → Object T → Doing T → Option HoldKind → (Word → ℕ) → Turn T
stepped z o doing hold memory = stepped_by z o doing hold (carried_out (intent_at z doing.place hold) memory)

abbrev pub go_at : {T : Type 0} → Arithmetic T → Object T → Option (Doing T) → Option HoldKind → (Word → ℕ) → Result (Turn T) StepFault
go_at z o None hold memory = Err StepFault.Idle
go_at z o (Some doing) hold memory = if is_some doing.stands then Err StepFault.WaitingForAnswer else Ok (stepped z o doing hold memory)

abbrev pub go_turn : {T : Type 0} → Arithmetic T → Object T → Party T → (Word → ℕ) → Result (Turn T) StepFault
go_turn z o party memory = go_at z o party.doing party.hold memory

-- a closure has answered, and the call goes on from this place
abbrev pub told_answer : {T : Type 0} → Act T → Doing T → Option HoldKind → Place T → Turn T
told_answer act doing hold place =
    record {
      act = act;
      outcome = Then.GoesOn;
      party = record { doing = Some (record { call = doing.call; place = place; stands = None }); hold = hold };
    }

abbrev pub is_at_wait : Option Closure → Bool
is_at_wait (Some Closure.Wait) = true
is_at_wait other = false

abbrev pub is_at_choice : Option Closure → Bool
is_at_choice (Some Closure.Choice) = true
is_at_choice other = false

abbrev pub answer_at : {T : Type 0} → Arithmetic T → Option (Doing T) → Option HoldKind → WaitAction → Result (Turn T) StepFault
answer_at z None hold action = Err StepFault.NotWaiting
answer_at z (Some doing) hold action =
    if is_at_wait doing.stands
    then Ok (told_answer (Act.Answered action) doing hold (answered_at z doing.place action))
    else Err StepFault.NotWaiting

abbrev pub answer_turn : {T : Type 0} → Arithmetic T → Party T → WaitAction → Result (Turn T) StepFault
answer_turn z party action = answer_at z party.doing party.hold action

abbrev pub choose_at : {T : Type 0} → Arithmetic T → Option (Doing T) → Option HoldKind → Option T → Result (Turn T) StepFault
choose_at z None hold choice = Err StepFault.NotWaiting
choose_at z (Some doing) hold choice =
    if is_at_choice doing.stands
    then Ok (told_answer (Act.Chosen choice) doing hold (chosen_at z doing.place choice))
    else Err StepFault.NotWaiting

abbrev pub choose_turn : {T : Type 0} → Arithmetic T → Party T → Option T → Result (Turn T) StepFault
choose_turn z party choice = choose_at z party.doing party.hold choice

abbrev pub turn_at : {T : Type 0} → Arithmetic T → Object T → Party T → (Word → ℕ) → Input T → Result (Turn T) StepFault
turn_at z o party memory (Input.Begin call) = begin_turn z o party call
turn_at z o party memory Input.Go = go_turn z o party memory
turn_at z o party memory (Input.Answer action) = answer_turn z party action
turn_at z o party memory (Input.Choose choice) = choose_turn z party choice
