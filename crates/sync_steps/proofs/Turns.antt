-- The turn of a party that is where a run's call is, is the move that the definitions give, and leaves it where they do.
use Rattle.sync_steps.proofs.Names.{◌≡◌, refl, sym, subst, ℕ, Bool, true, false, ◌&&◌, cond, is_some, is_none, Option, Some, None, Result, Ok, Err, ◌⊎◌, carried_is_step, arith, eqb-true, eqb-false, nat_tests, WaitAction, Call, Input, Object, StepFault, Then, Word, HoldKind, Arithmetic, carried_out, value_told, within, PendingCall, call_after, hold_after, latest_outcome, event, stage_of, move_of, fault_at, go_fault, answer_fault, choose_fault, is_locking, HasForm, Doing, Party, Place, Turn, place_of, table_of, place_in, closure_of, DoesCall, IsParty, map_place, begins_at, needs_hold_at, turn_after, begun, begin_at, begin_turn, go_at, is_at_wait, is_at_choice, answer_at, choose_at, turn_at}
use Rattle.sync_steps.proofs.Objects.{begins_is, intent_is, after_is, answered_is, chosen_is, needs_hold_is, new_hold_is}

-- the turn is what the input gives: the move of the definitions, which leaves the party where they do
pub record Turns {T : Type 0} (z : Arithmetic T) (o : Object T) (pending : Option (PendingCall T)) (hold : Option HoldKind) (memory : Word → ℕ) (input : Input T) (turn : Turn T) : Type 0 where
  pub allowed : fault_at (table_of z o) pending hold input ≡ None
  pub form : HasForm input turn.act
  pub moved : move_of (table_of z o) pending hold memory input ≡ Some (record { act = turn.act; outcome = turn.outcome })
  pub leaves : (number : ℕ) → IsParty z o turn.party (call_after turn.outcome (event number turn.act turn.outcome) pending) (hold_after (table_of z o) turn.act pending hold)

-- what is promised of a turn, or of the fault in its place
abbrev pub TurnsOr : {T : Type 0} → Arithmetic T → Object T → Option (PendingCall T) → Option HoldKind → (Word → ℕ) → Input T → Result (Turn T) StepFault → Type 0
TurnsOr z o pending hold memory input (Ok turn) = Turns z o pending hold memory input turn
TurnsOr z o pending hold memory input (Err fault) = fault_at (table_of z o) pending hold input ≡ Some fault

-- A beginning.

begins_some : {T P : Type 0} (wrap : P → Place T) (found : Option P) (place : Place T) → map_place wrap found ≡ Some place → (p : P) × (found ≡ Some p) × (wrap p ≡ place)
begins_some wrap found place h1 = grind (arith, nat_tests, eqb-true, eqb-false)

begins_none : {T P : Type 0} (wrap : P → Place T) (found : Option P) → map_place wrap found ≡ None → found ≡ None
begins_none wrap found h1 = grind (arith, nat_tests, eqb-true, eqb-false)

-- an input that may begin the call, by two tests: who holds may not lock, and who does not may not unlock
begins_by :
    {T : Type 0} (z : Arithmetic T) (o : Object T) (call : Call T) (hold : Option HoldKind) (memory : Word → ℕ) (place : Place T) (p : place_of o) (holds lacks : Bool) → (table_of z o).begins call ≡ Some p → place_in o p ≡ place →
    (is_locking call && is_some hold) ≡ holds → (needs_hold_at z o call && is_none hold) ≡ lacks →
    TurnsOr z o None hold memory (Input.Begin call) (cond holds (Err StepFault.Holding) (cond lacks (Err StepFault.NoHold) (Ok (begun (record { doing = None; hold = hold }) call place))))
begins_by z o call hold memory place p holds lacks h1 h2 h3 h4 = grind (arith, nat_tests, eqb-true, eqb-false, is_none, needs_hold_is)

begin_turns :
    {T : Type 0} (z : Arithmetic T) (o : Object T) (doing : Option (Doing T)) (hold : Option HoldKind) (memory : Word → ℕ) (call : Call T) (pending : Option (PendingCall T)) → DoesCall z o doing pending →
    TurnsOr z o pending hold memory (Input.Begin call) (begin_turn z o (record { doing = doing; hold = hold }) call)
begin_turns z o None hold memory call (Some c) at = absurd at
begin_turns z o (Some doing) hold memory call None at = absurd at
begin_turns z o (Some doing) hold memory call (Some c) at = refl
begin_turns {T} z o None hold memory call None at = by_place (begins_at z o call) (sym (begins_is z o call))
  where
    by_place : (found : Option (Place T)) → map_place (place_in o) ((table_of z o).begins call) ≡ found →
        TurnsOr z o None hold memory (Input.Begin call) (begin_at z o (record { doing = None; hold = hold }) call found)
    by_place None is = rw (begins_none (place_in o) ((table_of z o).begins call) is) refl
    by_place (Some place) is =
        let found = begins_some (place_in o) ((table_of z o).begins call) place is in
        begins_by z o call hold memory place found.0 (is_locking call && is_some hold) (needs_hold_at z o call && is_none hold) found.1 found.2 refl refl

-- A step.

-- the step at a place of the table
table_steps :
    {T : Type 0} (z : Arithmetic T) (o : Object T) (c : PendingCall T) (hold : Option HoldKind) (memory : Word → ℕ) (p : place_of o) → stage_of (table_of z o) c ≡ Some p → go_fault (latest_outcome c.own) ≡ None →
    Turns z o (Some c) hold memory Input.Go
    (turn_after z o c.call hold (carried_out ((table_of z o).intent p hold) memory) (within (place_in o) ((table_of z o).after p (value_told (carried_out ((table_of z o).intent p hold) memory)))))
table_steps z o c hold memory p h1 h2 = grind (arith, nat_tests, eqb-true, eqb-false, carried_is_step, new_hold_is)

-- whether a call makes steps, by how it was left
goes_by : {T : Type 0} (outcome : Then T) → ((is_some (closure_of outcome) ≡ true) × (go_fault outcome ≡ Some StepFault.WaitingForAnswer)) ⊎ ((is_some (closure_of outcome) ≡ false) × (go_fault outcome ≡ None))
goes_by outcome = grind (arith, nat_tests, eqb-true, eqb-false)

go_turns :
    {T : Type 0} (z : Arithmetic T) (o : Object T) (doing : Option (Doing T)) (hold : Option HoldKind) (memory : Word → ℕ) (pending : Option (PendingCall T)) → DoesCall z o doing pending →
    TurnsOr z o pending hold memory Input.Go (go_at z o doing hold memory)
go_turns z o doing hold memory pending h1 = grind (arith, nat_tests, eqb-true, eqb-false, goes_by, is_some, after_is, intent_is, table_steps)

-- An answer.

answers_by : {T : Type 0} (outcome : Then T) → ((is_at_wait (closure_of outcome) ≡ true) × (answer_fault outcome ≡ None)) ⊎ ((is_at_wait (closure_of outcome) ≡ false) × (answer_fault outcome ≡ Some StepFault.NotWaiting))
answers_by outcome = grind (arith, nat_tests, eqb-true, eqb-false)

chooses_by : {T : Type 0} (outcome : Then T) → ((is_at_choice (closure_of outcome) ≡ true) × (choose_fault outcome ≡ None)) ⊎ ((is_at_choice (closure_of outcome) ≡ false) × (choose_fault outcome ≡ Some StepFault.NotWaiting))
chooses_by outcome = grind (arith, nat_tests, eqb-true, eqb-false)

answer_turns :
    {T : Type 0} (z : Arithmetic T) (o : Object T) (doing : Option (Doing T)) (hold : Option HoldKind) (memory : Word → ℕ) (action : WaitAction) (pending : Option (PendingCall T)) → DoesCall z o doing pending →
    TurnsOr z o pending hold memory (Input.Answer action) (answer_at z doing hold action)
answer_turns z o doing hold memory action pending h1 = grind (arith, nat_tests, eqb-true, eqb-false, answers_by, answered_is)

choose_turns :
    {T : Type 0} (z : Arithmetic T) (o : Object T) (doing : Option (Doing T)) (hold : Option HoldKind) (memory : Word → ℕ) (choice : Option T) (pending : Option (PendingCall T)) → DoesCall z o doing pending →
    TurnsOr z o pending hold memory (Input.Choose choice) (choose_at z doing hold choice)
choose_turns z o doing hold memory choice pending h1 = grind (arith, nat_tests, eqb-true, eqb-false, chooses_by, chosen_is)

-- Whatever the input.
pub turns_at :
    {T : Type 0} (z : Arithmetic T) (o : Object T) (party : Party T) (memory : Word → ℕ) (input : Input T) (pending : Option (PendingCall T)) (hold : Option HoldKind) → IsParty z o party pending hold →
    TurnsOr z o pending hold memory input (turn_at z o party memory input)
turns_at {T} z o party memory input pending hold at =
    subst (λ h. TurnsOr z o pending h memory input (turn_at z o party memory input)) at.hold_is (by_input input)
  where
    by_input : (i : Input T) → TurnsOr z o pending party.hold memory i (turn_at z o party memory i)
    by_input (Input.Begin call) = begin_turns z o party.doing party.hold memory call pending at.doing
    by_input Input.Go = go_turns z o party.doing party.hold memory pending at.doing
    by_input (Input.Answer action) = answer_turns z o party.doing party.hold memory action pending at.doing
    by_input (Input.Choose choice) = choose_turns z o party.doing party.hold memory choice pending at.doing
