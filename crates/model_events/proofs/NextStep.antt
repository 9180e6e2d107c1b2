-- That each step of a run is its call's next, from the step at each place.
use Rattle.model_events.proofs.Names.{◌≡◌, ◌∙◌, ℕ, ◌+◌, ◌≤◌, ◌<◌, refl, List, [], ◌∷◌, Option, Some, None, arith, MatchBool, MatchOption, Arithmetic, carried_out, value_told, place_after, Table, PendingCall, call_of, hold_of, word_in, Move, stage_of, step_at, is_step, IsPast, acts_in, StepsAs, EndsWithin, WaitAction, Word, Call, Act, Event, Then, HoldKind}
use Rattle.model_events.proofs.Steps.{by_move, carried_is_step}
use Rattle.model_events.proofs.Parties.{IsKept, IsAtPlace, at_place, each_call}

module _ {T P : Type 0} (z : Arithmetic T) (t : Table T P) (parties : ℕ) (At : P → PendingCall T → Option HoldKind → Type 0) (Next : Call T → List (Event T) → Act T → Then T → Type 0) where
  -- this is so of each call under way, by its place
  abbrev pub AreAtPlaces : Type 0
  AreAtPlaces =
      (past : List (Event T)) → IsPast z t parties past → (party : ℕ) (c : PendingCall T) (place : P) → call_of party past ≡ Some c → stage_of t c ≡ Some place →
      At place c (hold_of t party past)

  -- and where it is so, the step at the place is the next
  abbrev pub LeadOn : Type 0
  LeadOn =
      (place : P) (c : PendingCall T) (hold : Option HoldKind) (memory : Word → ℕ) → At place c hold →
      Next c.call c.own (step_at t place hold memory).act (step_at t place hold memory).outcome

  pub steps_follow : AreAtPlaces → LeadOn → (past : List (Event T)) → IsPast z t parties past → StepsAs Next past
  steps_follow here leads [] run = tt
  steps_follow here leads (e ∷ past) run =
      by_move t (call_of e.party past) (hold_of t e.party past) (word_in t past)
      (λ (k : Option (PendingCall T)) (m : Move T). MatchBool (is_step m.act) (MatchOption k ⊥ (λ c. Next c.call c.own m.act m.outcome)) (Unit {0}))
      run.0.0 (record { act = e.act; outcome = e.then })
      (λ call _. tt) (λ action _. tt) (λ choice _. tt)
      (λ c place _ called stage.
      let hold = hold_of t e.party past in
      rw (carried_is_step (t.intent place hold) (word_in t past)) (leads place c hold (word_in t past) (here past run.1 e.party c place called stage)))
      run.0.1.moved

-- of a call alone, whatever values its inputs bring
pub steps_as :
    {T P : Type 0} (z : Arithmetic T) (t : Table T P) (parties : ℕ) (At : P → PendingCall T → Option HoldKind → Type 0) (Next : Call T → List (Event T) → Act T → Then T → Type 0) →
    IsKept t At → LeadOn z t parties At Next → (past : List (Event T)) → IsPast z t parties past → StepsAs Next past
steps_as z t parties At Next kept leads past run = steps_follow z t parties At Next (at_place z t parties At kept) leads past run

-- A call that waits for nobody ends within so many steps, where fewer of them are left at each place than at the one before.

pub record Descends {T P : Type 0} (t : Table T P) (most : Call T → Option ℕ) (rest : P → Option ℕ) : Type 0 where
  pub begins : (call : Call T) (place : P) (steps : ℕ) → t.begins call ≡ Some place → most call ≡ Some steps → (left : ℕ) × (rest place ≡ Some left) × (left ≤ steps)
  pub goes : (place next : P) (told : Option ℕ) (left : ℕ) → rest place ≡ Some left → place_after (t.after place told) ≡ Some next → (fewer : ℕ) × (rest next ≡ Some fewer) × (fewer < left)
  pub some : (place : P) (left : ℕ) → rest place ≡ Some left → 0 < left
  pub answered : (place : P) (action : WaitAction) → rest (t.answered place action) ≡ rest place
  pub chosen : (place : P) (choice : Option T) → rest (t.chosen place choice) ≡ rest place

module _ {T P : Type 0} (t : Table T P) (most : Call T → Option ℕ) (rest : P → Option ℕ) (down : Descends t most rest) where
  -- what is left and what was made are no more than the call may make
  abbrev IsOnItsWay : P → PendingCall T → Option HoldKind → Type 0
  IsOnItsWay place c hold = (steps : ℕ) → most c.call ≡ Some steps → (left : ℕ) × (rest place ≡ Some left) × (acts_in is_step c.own + left ≤ steps)

  way_kept : IsKept t IsOnItsWay
  way_kept =
      record {
        begins = λ call place hold is allowed steps most_is. let here = down.begins call place steps is most_is in (here.0, here.1, omega (arith, here.2));
        steps = λ place c hold memory number next on free is steps most_is.
            let here = on steps most_is in
            let act : Act T = carried_out (t.intent place hold) memory in
            let fewer = down.goes place next (value_told act) here.0 here.1 is in
            (fewer.0, fewer.1, rw (carried_is_step (t.intent place hold) memory) (omega (arith, here.2, fewer.2)));
        answers = λ place c hold action number on waits steps most_is. let here = on steps most_is in (here.0, down.answered place action ∙ here.1, omega (arith, here.2));
        chooses = λ place c hold choice number on stands steps most_is. let here = on steps most_is in (here.0, down.chosen place choice ∙ here.1, omega (arith, here.2));
      }

  pub ends_within : (z : Arithmetic T) (parties : ℕ) (past : List (Event T)) → IsPast z t parties past → EndsWithin most past
  ends_within z parties past run party = by_call (call_of party past) (each_call z t parties IsOnItsWay way_kept past run party)
    where
      by_call : (pending : Option (PendingCall T)) → IsAtPlace t IsOnItsWay pending (hold_of t party past) → MatchOption pending (Unit {0}) (λ c. MatchOption (most c.call) (Unit {0}) (λ steps. acts_in is_step c.own < steps))
      by_call None at = tt
      by_call (Some c) at = by_most (most c.call) refl
        where
          by_most : (steps : Option ℕ) → most c.call ≡ steps → MatchOption steps (Unit {0}) (λ n. acts_in is_step c.own < n)
          by_most None is = tt
          by_most (Some n) is = let here = at.2 n is in omega (arith, here.2, down.some at.0 here.0 here.1)
