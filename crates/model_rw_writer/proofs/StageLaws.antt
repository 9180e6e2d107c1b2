-- A fact of the place where a call under way is, and of its own events: that the next event of the call leads on to such a place.
use Rattle.model_rw_writer.proofs.Names.{eqb-false, eqb-true, nat_tests, ◌≡◌, refl, ◌∙◌, ap, ℕ, List, ◌∷◌, Option, Some, None, arith, carried_goes_on, carried_stage, WaitAction, Act, Call, Event, Input, Then, Word, HoldKind, After, carried_out, value_told, outcome_of, place_after, PendingCall, call_after, call_going_on, event, step_at, stage_of, next_stage, fault_at, RwWriterPlace, rw_writer_table, rw_writer_answered}

pub same_call : {T : Type 0} (c d : PendingCall T) → Some c ≡ Some d → c ≡ d
same_call c d is = cc

pub same_place : (p q : RwWriterPlace) → Some p ≡ Some q → p ≡ q
same_place p q is = cc

-- a call is under way, at a place of which, with the call's own events, this holds
pub record IsAt {T : Type 0} (Fact : RwWriterPlace → List (Event T) → Type 0) (pending : Option (PendingCall T)) : Type 0 where
  pub call : PendingCall T
  pub under_way : pending ≡ Some call
  pub place : RwWriterPlace
  pub stage : stage_of rw_writer_table call ≡ Some place
  pub fact : Fact place call.own

-- so it is of the place where the call is
pub fact_here : {T : Type 0} (Fact : RwWriterPlace → List (Event T) → Type 0) (c : PendingCall T) (place : RwWriterPlace) → stage_of rw_writer_table c ≡ Some place → IsAt Fact (Some c) → Fact place c.own
fact_here Fact c place h1 h2 = grind (arith, nat_tests, eqb-true, eqb-false)

-- a party with a call under way begins none
pub begins_none :
    {T : Type 0} (pending : Option (PendingCall T)) (c : PendingCall T) (hold : Option HoldKind) (call : Call T) (input : Input T) →
    pending ≡ Some c → fault_at rw_writer_table pending hold input ≡ None → input ≡ Input.Begin call → ⊥
begins_none pending c hold call input h1 h2 h3 = grind (arith, nat_tests, eqb-true, eqb-false)

-- after an answer of a closure
pub answered_at :
    {T : Type 0} (Fact : RwWriterPlace → List (Event T) → Type 0) (r : ℕ) (action : WaitAction) (pending : Option (PendingCall T)) →
    ((place : RwWriterPlace) (own : List (Event T)) (e : Event T) → Fact place own → Fact (rw_writer_answered place action) (e ∷ own)) →
    IsAt Fact pending → IsAt Fact (call_going_on (Act.Answered action) (event r (Act.Answered action) Then.GoesOn) pending)
answered_at {T} Fact r action pending keeps at =
    let e : Event T = event r (Act.Answered action) Then.GoesOn in
    record {
      call = record { call = at.call.call; own = e ∷ at.call.own };
      under_way = ap (call_going_on (Act.Answered action) e) at.under_way;
      place = rw_writer_answered at.place action;
      stage = ap (next_stage {T = T} rw_writer_table (Act.Answered action)) at.stage;
      fact = keeps at.place at.call.own e at.fact;
    }

pub chosen_at :
    {T : Type 0} (Fact : RwWriterPlace → List (Event T) → Type 0) (r : ℕ) (choice : Option T) (pending : Option (PendingCall T)) →
    ((place : RwWriterPlace) (own : List (Event T)) (e : Event T) → Fact place own → Fact place (e ∷ own)) →
    IsAt Fact pending → IsAt Fact (call_going_on (Act.Chosen choice) (event r (Act.Chosen choice) Then.GoesOn) pending)
chosen_at Fact r choice pending h1 h2 = grind (arith, nat_tests, eqb-true, eqb-false)

-- after a step that leads on to a place, or that stands before it
pub stepped_at :
    {T : Type 0} (Fact : RwWriterPlace → List (Event T) → Type 0) (r : ℕ) (c : PendingCall T) (place next : RwWriterPlace) (hold : Option HoldKind) (memory : Word → ℕ) →
    stage_of rw_writer_table c ≡ Some place → place_after {T = T} (rw_writer_table.after place (value_told {T = T} (carried_out (rw_writer_table.intent place hold) memory))) ≡ Some next →
    ((e : Event T) → e.act ≡ (step_at rw_writer_table place hold memory).act → Fact next (e ∷ c.own)) →
    IsAt Fact (call_after (step_at rw_writer_table place hold memory).outcome (event r (step_at rw_writer_table place hold memory).act (step_at rw_writer_table place hold memory).outcome) (Some c))
stepped_at {T} Fact r c place next hold memory stage to holds = by_after (rw_writer_table.after place (value_told act)) refl to
  where
    act : Act T
    act = (step_at {T = T} rw_writer_table place hold memory).act

    on : (a : After T RwWriterPlace) → rw_writer_table.after place (value_told act) ≡ a → place_after a ≡ Some next → IsAt Fact (call_going_on act (event r act (outcome_of a)) (Some c))
    on a is leads =
        let e : Event T = event r act (outcome_of a) in
        record {
          call = record { call = c.call; own = e ∷ c.own };
          under_way = carried_goes_on (rw_writer_table.intent place hold) memory e c;
          place = next;
          stage = ap (next_stage rw_writer_table act) stage ∙ carried_stage rw_writer_table place (rw_writer_table.intent place hold) memory ∙ ap place_after is ∙ leads;
          fact = holds e refl;
        }

    by_after : (a : After T RwWriterPlace) → rw_writer_table.after place (value_told act) ≡ a → place_after a ≡ Some next → IsAt Fact (call_after (outcome_of a) (event r act (outcome_of a)) (Some c))
    by_after (After.At at) is leads = on (After.At at) is leads
    by_after (After.Waits at seen) is leads = on (After.Waits at seen) is leads
    by_after (After.Chooses at old) is leads = on (After.Chooses at old) is leads
    by_after (After.Ends answer) is leads = absurd cc
