-- What each party keeps, through every event: of its call under way, the call's place, and its hold.
use Rattle.model_events.proofs.Names.{eqb-true, eqb-false, ◌≡◌, ◌≢◌, ℕ, ◌==◌, refl, sym, ◌∙◌, ap, subst, true, false, cond, is_some, List, [], ◌∷◌, Option, Some, None, ◌⊎◌, inl, inr, arith, eqb_tells, nat_tests, Arithmetic, carried_out, value_told, outcome_of, place_after, Table, PendingCall, call_of, call_after, call_going_on, hold_of, hold_after, word_in, latest_outcome, event, Move, stage_of, next_stage, step_at, move_of, fault_at, fault_of, hold_fault, begin_fault, go_fault, answer_fault, choose_fault, CallValues, InputValues, IsNext, IsPast, WaitAction, Word, Call, Act, Answer, Event, Input, StepFault, Then, HoldKind, After}
use Rattle.model_events.proofs.Holds.{some_same, call_of_same, call_of_other, hold_of_same, hold_of_other}
use Rattle.model_events.proofs.Steps.{by_move, carried_goes_on, carried_stage}

-- an input that is not refused is not refused to its party
pub fault_at_none :
    {T P : Type 0} (t : Table T P) (parties : ℕ) (past : List (Event T)) (party : ℕ) (input : Input T) →
    fault_of t parties past party input ≡ None → fault_at t (call_of party past) (hold_of t party past) input ≡ None
fault_at_none t parties past party input h1 = grind (arith, nat_tests, eqb-true, eqb-false)

-- an event of a party keeps what holds of each party, if it keeps it of its own
pub one_more :
    {T P : Type 0} (t : Table T P) (R : Option (PendingCall T) → Option HoldKind → Type 0) (past : List (Event T)) (e : Event T) → ((q : ℕ) → R (call_of q past) (hold_of t q past)) →
    R (call_after e.then e (call_of e.party past)) (hold_after t e.act (call_of e.party past) (hold_of t e.party past)) → (party : ℕ) → R (call_of party (e ∷ past)) (hold_of t party (e ∷ past))
one_more {T} t R past e before own party = by_party (eqb_tells e.party party)
  where
    mine : R (call_of e.party (e ∷ past)) (hold_of t e.party (e ∷ past))
    mine =
        let P : Option (PendingCall T) → Type 0 = λ c. R c (hold_after t e.act (call_of e.party past) (hold_of t e.party past)) in
        let Q : Option HoldKind → Type 0 = λ h. R (call_of e.party (e ∷ past)) h in
        subst Q (sym (hold_of_same t e.party e.act e.then past)) (subst P (sym (call_of_same e.party e.act e.then past)) own)

    theirs : party ≢ e.party → R (call_of party (e ∷ past)) (hold_of t party (e ∷ past))
    theirs other =
        let P : Option (PendingCall T) → Type 0 = λ c. R c (hold_of t party past) in
        let Q : Option HoldKind → Type 0 = λ h. R (call_of party (e ∷ past)) h in
        subst Q (sym (hold_of_other t e.party party e.act e.then past other)) (subst P (sym (call_of_other e.party party e.act e.then past other)) (before party))

    by_party : (((e.party == party) ≡ true) × (e.party ≡ party)) ⊎ (((e.party == party) ≡ false) × (e.party ≢ party)) → R (call_of party (e ∷ past)) (hold_of t party (e ∷ past))
    by_party (inl is) = subst (λ q. R (call_of q (e ∷ past)) (hold_of t q (e ∷ past))) is.1 mine
    by_party (inr other) = theirs (λ is. other.1 (sym is))

-- what holds of a party that has begun nothing, and is kept by each event of its own, holds of each party
pub each_party :
    {T P : Type 0} (z : Arithmetic T) (t : Table T P) (parties : ℕ) (R : Option (PendingCall T) → Option HoldKind → Type 0) → R None None →
    ((past : List (Event T)) (input : Input T) (e : Event T) → IsNext z t parties past e.party input e → R (call_of e.party past) (hold_of t e.party past) →
    R (call_after e.then e (call_of e.party past)) (hold_after t e.act (call_of e.party past) (hold_of t e.party past))) →
    (past : List (Event T)) → IsPast z t parties past → (party : ℕ) → R (call_of party past) (hold_of t party past)
each_party z t parties R none step [] run party = none
each_party z t parties R none step (e ∷ past) run party =
    let before = each_party z t parties R none step past run.1 in
    one_more t R past e before (step past run.0.0 e run.0.1 (before e.party)) party

-- What is kept of the call at each place, whatever a party does: each step of the call keeps it,
abbrev pub IsKeptBySteps : {T P : Type 0} → Table T P → (P → PendingCall T → Option HoldKind → Type 0) → Type 0
IsKeptBySteps {T} {P} t At =
    (place : P) (c : PendingCall T) (hold : Option HoldKind) (memory : Word → ℕ) (number : ℕ) (next : P) → At place c hold → go_fault (latest_outcome c.own) ≡ None →
    place_after (t.after place (value_told (carried_out (t.intent place hold) memory))) ≡ Some next →
    At next (record { call = c.call; own = event number (step_at t place hold memory).act (step_at t place hold memory).outcome ∷ c.own }) (hold_after t (step_at t place hold memory).act (Some c) hold)

-- and so does each answer of its wait closure.
abbrev pub IsKeptByAnswers : {T P : Type 0} → Table T P → (P → PendingCall T → Option HoldKind → Type 0) → Type 0
IsKeptByAnswers {T} {P} t At =
    (place : P) (c : PendingCall T) (hold : Option HoldKind) (action : WaitAction) (number : ℕ) → At place c hold → answer_fault (latest_outcome c.own) ≡ None →
    At (t.answered place action) (record { call = c.call; own = event number (Act.Answered action) Then.GoesOn ∷ c.own }) hold

-- It holds where a call begins, and each event of the call keeps it.
pub record IsKept {T P : Type 0} (t : Table T P) (At : P → PendingCall T → Option HoldKind → Type 0) : Type 0 where
  pub begins : (call : Call T) (place : P) (hold : Option HoldKind) → t.begins call ≡ Some place → hold_fault t call hold ≡ None → At place (record { call = call; own = [] }) hold
  pub steps : IsKeptBySteps t At
  pub answers : IsKeptByAnswers t At
  pub chooses :
      (place : P) (c : PendingCall T) (hold : Option HoldKind) (choice : Option T) (number : ℕ) → At place c hold → choose_fault (latest_outcome c.own) ≡ None →
      At (t.chosen place choice) (record { call = c.call; own = event number (Act.Chosen choice) Then.GoesOn ∷ c.own }) hold

-- The same where it rests on the values that inputs bring, and on what hold a party has that has no call: it rests with such a hold before a call, and a call
-- that ends leaves it so.
pub record IsKeptFromRest {T P : Type 0} (z : Arithmetic T) (t : Table T P) (Rest : Option HoldKind → Type 0) (At : P → PendingCall T → Option HoldKind → Type 0) : Type 0 where
  pub begins :
      (call : Call T) (place : P) (hold : Option HoldKind) → t.begins call ≡ Some place → hold_fault t call hold ≡ None → CallValues z call → Rest hold →
      At place (record { call = call; own = [] }) hold
  pub steps : IsKeptBySteps t At
  pub answers : IsKeptByAnswers t At
  pub chooses :
      (place : P) (c : PendingCall T) (hold : Option HoldKind) (choice : Option T) (number : ℕ) → At place c hold → choose_fault (latest_outcome c.own) ≡ None → InputValues z (Input.Choose choice) →
      At (t.chosen place choice) (record { call = c.call; own = event number (Act.Chosen choice) Then.GoesOn ∷ c.own }) hold
  pub ends :
      (place : P) (c : PendingCall T) (hold : Option HoldKind) (memory : Word → ℕ) (answer : Answer T) → At place c hold →
      t.after place (value_told (carried_out (t.intent place hold) memory)) ≡ After.Ends answer → Rest (hold_after t (step_at t place hold memory).act (Some c) hold)

-- whatever hold a party has
abbrev pub Whatever : Option HoldKind → Type 0
Whatever hold = Unit {0}

whatever_rests : {T P : Type 0} (z : Arithmetic T) (t : Table T P) (At : P → PendingCall T → Option HoldKind → Type 0) → IsKept t At → IsKeptFromRest z t Whatever At
whatever_rests z t At h1 = grind (arith, nat_tests, eqb-true, eqb-false)

-- a party's call under way is at a place, of which this is kept; without a call it rests
abbrev pub IsAtPlaceOrRests : {T P : Type 0} → Table T P → (Option HoldKind → Type 0) → (P → PendingCall T → Option HoldKind → Type 0) → Option (PendingCall T) → Option HoldKind → Type 0
IsAtPlaceOrRests t Rest At None hold = Rest hold
IsAtPlaceOrRests {T} {P} t Rest At (Some c) hold = (place : P) × (stage_of t c ≡ Some place) × At place c hold

abbrev pub IsAtPlace : {T P : Type 0} → Table T P → (P → PendingCall T → Option HoldKind → Type 0) → Option (PendingCall T) → Option HoldKind → Type 0
IsAtPlace t At pending hold = IsAtPlaceOrRests t Whatever At pending hold

module _ {T P : Type 0} (z : Arithmetic T) (t : Table T P) (Rest : Option HoldKind → Type 0) (At : P → PendingCall T → Option HoldKind → Type 0) (kept : IsKeptFromRest z t Rest At) where
  -- a party with this call and this hold
  abbrev IsHere : Option (PendingCall T) → Option HoldKind → Type 0
  IsHere pending hold = IsAtPlaceOrRests t Rest At pending hold

  begun_at :
      (pending : Option (PendingCall T)) (hold : Option HoldKind) (call : Call T) → CallValues z call → IsHere pending hold →
      begin_fault t pending hold call ≡ None → (place : P) × (t.begins call ≡ Some place) × At place (record { call = call; own = [] }) hold
  begun_at (Some c) hold call values here allowed = absurd cc
  begun_at None hold call values here allowed = by_place (t.begins call) refl allowed
    where
      by_place : (place : Option P) → t.begins call ≡ place → cond (is_some place) (hold_fault t call hold) (Some StepFault.OtherObject) ≡ None →
          (place : P) × (t.begins call ≡ Some place) × At place (record { call = call; own = [] }) hold
      by_place None is none = absurd cc
      by_place (Some place) is none = (place, is, kept.begins call place hold is none values here)

  stepped_on :
      (place : P) (c : PendingCall T) (hold : Option HoldKind) (memory : Word → ℕ) (number : ℕ) (next : P) →
      stage_of t c ≡ Some place → At place c hold → go_fault (latest_outcome c.own) ≡ None → place_after (t.after place (value_told (carried_out (t.intent place hold) memory))) ≡ Some next →
      IsHere (call_going_on (step_at t place hold memory).act (event number (step_at t place hold memory).act (step_at t place hold memory).outcome) (Some c)) (hold_after t (step_at t place hold memory).act (Some c) hold)
  stepped_on place c hold memory number next stage at goes is =
      let act = (step_at t place hold memory).act in
      let e = event number act (step_at t place hold memory).outcome in
      let K : Option (PendingCall T) → Type 0 = λ k. IsHere k (hold_after t act (Some c) hold) in
      let to : next_stage t act (stage_of t c) ≡ Some next = ap (next_stage t act) stage ∙ carried_stage t place (t.intent place hold) memory ∙ is in
      subst K (sym (carried_goes_on (t.intent place hold) memory e c)) (next, to, kept.steps place c hold memory number next at goes is)

  stepped_at :
      (place : P) (c : PendingCall T) (hold : Option HoldKind) (memory : Word → ℕ) (number : ℕ) → stage_of t c ≡ Some place → At place c hold → go_fault (latest_outcome c.own) ≡ None →
      IsHere (call_after (step_at t place hold memory).outcome (event number (step_at t place hold memory).act (step_at t place hold memory).outcome) (Some c)) (hold_after t (step_at t place hold memory).act (Some c) hold)
  stepped_at place c hold memory number stage at goes = by_after (t.after place (value_told act)) refl
    where
      act : Act T
      act = (step_at t place hold memory).act

      GoesOn : After T P → Type 0
      GoesOn a = IsHere (call_going_on act (event number act (outcome_of a)) (Some c)) (hold_after t act (Some c) hold)

      on : (a : After T P) (next : P) → t.after place (value_told act) ≡ a → place_after a ≡ Some next → GoesOn a
      on a next is to = subst GoesOn is (stepped_on place c hold memory number next stage at goes (ap place_after is ∙ to))

      by_after : (a : After T P) → t.after place (value_told act) ≡ a → IsHere (call_after (outcome_of a) (event number act (outcome_of a)) (Some c)) (hold_after t act (Some c) hold)
      by_after (After.At next) is = on (After.At next) next is refl
      by_after (After.Waits next seen) is = on (After.Waits next seen) next is refl
      by_after (After.Chooses next old) is = on (After.Chooses next old) next is refl
      by_after (After.Ends answer) is = kept.ends place c hold memory answer at is

  -- a call that stands at a closure goes on from where its answer leads
  answered_at :
      (pending : Option (PendingCall T)) (hold : Option HoldKind) (action : WaitAction) (number : ℕ) → fault_at t pending hold (Input.Answer action) ≡ None → IsHere pending hold →
      IsHere (call_going_on (Act.Answered action) (event number (Act.Answered action) Then.GoesOn) pending) hold
  answered_at None hold action number allowed here = here
  answered_at (Some c) hold action number allowed here =
      (t.answered here.0 action, ap (next_stage t (Act.Answered action)) here.1, kept.answers here.0 c hold action number here.2 allowed)

  chosen_at :
      (pending : Option (PendingCall T)) (hold : Option HoldKind) (choice : Option T) (number : ℕ) → InputValues z (Input.Choose choice) → fault_at t pending hold (Input.Choose choice) ≡ None → IsHere pending hold →
      IsHere (call_going_on (Act.Chosen choice) (event number (Act.Chosen choice) Then.GoesOn) pending) hold
  chosen_at None hold choice number values allowed here = here
  chosen_at (Some c) hold choice number values allowed here =
      (t.chosen here.0 choice, ap (next_stage t (Act.Chosen choice)) here.1, kept.chooses here.0 c hold choice number here.2 allowed values)

  -- whatever the input
  moved_at :
      (pending : Option (PendingCall T)) (hold : Option HoldKind) (memory : Word → ℕ) (input : Input T) (number : ℕ) (m : Move T) →
      InputValues z input → fault_at t pending hold input ≡ None → move_of t pending hold memory input ≡ Some m → IsHere pending hold →
      IsHere (call_after m.outcome (event number m.act m.outcome) pending) (hold_after t m.act pending hold)
  moved_at pending hold memory input number m values allowed moved here =
      by_move t pending hold memory Leads input m
      (λ call is before. begun_at pending hold call (subst (InputValues z) is values) before (subst (λ i. fault_at t pending hold i ≡ None) is allowed))
      (λ action is before. answered_at pending hold action number (subst (λ i. fault_at t pending hold i ≡ None) is allowed) before)
      (λ choice is before. chosen_at pending hold choice number (subst (InputValues z) is values) (subst (λ i. fault_at t pending hold i ≡ None) is allowed) before)
      (λ c place is same stage before. stepped_here c place stage before (goes c is same))
      moved here
    where
      Leads : Option (PendingCall T) → Move T → Type 0
      Leads k x = IsHere k hold → IsHere (call_after x.outcome (event number x.act x.outcome) k) (hold_after t x.act k hold)

      goes : (c : PendingCall T) → input ≡ Input.Go → pending ≡ Some c → go_fault (latest_outcome c.own) ≡ None
      goes c is same =
          let free : fault_at t pending hold Input.Go ≡ None = subst (λ i. fault_at t pending hold i ≡ None) is allowed in
          subst (λ (k : Option (PendingCall T)). fault_at t k hold Input.Go ≡ None) same free

      stepped_here : (c : PendingCall T) (place : P) → stage_of t c ≡ Some place → IsHere (Some c) hold → go_fault (latest_outcome c.own) ≡ None →
          IsHere (call_after (step_at t place hold memory).outcome (event number (step_at t place hold memory).act (step_at t place hold memory).outcome) (Some c)) (hold_after t (step_at t place hold memory).act (Some c) hold)
      stepped_here c place stage before free =
          let same : before.0 ≡ place = some_same before.0 place (sym before.1 ∙ stage) in
          let here : At place c hold = subst (λ p. At p c hold) same before.2 in
          stepped_at place c hold memory number stage here free

  -- each call under way is at a place of which this is kept, and each party without one rests
  pub each_rests : (parties : ℕ) → Rest None → (past : List (Event T)) → IsPast z t parties past → (party : ℕ) → IsHere (call_of party past) (hold_of t party past)
  each_rests parties none past run party =
      each_party z t parties IsHere none
      (λ before input e next here.
      moved_at (call_of e.party before) (hold_of t e.party before) (word_in t before) input e.party _ next.values (fault_at_none t parties before e.party input next.allowed) next.moved here)
      past run party

  -- of the call that a party has under way, at its place
  pub at_place_from_rest :
      (parties : ℕ) → Rest None → (past : List (Event T)) → IsPast z t parties past → (party : ℕ) (c : PendingCall T) (place : P) → call_of party past ≡ Some c → stage_of t c ≡ Some place →
      At place c (hold_of t party past)
  at_place_from_rest parties none past run party c place called stage =
      let here : IsHere (Some c) (hold_of t party past) = subst (λ (k : Option (PendingCall T)). IsHere k (hold_of t party past)) called (each_rests parties none past run party) in
      subst (λ p. At p c (hold_of t party past)) (some_same here.0 place (sym here.1 ∙ stage)) here.2

-- Both where neither values nor rest matter.

pub each_call :
    {T P : Type 0} (z : Arithmetic T) (t : Table T P) (parties : ℕ) (At : P → PendingCall T → Option HoldKind → Type 0) → IsKept t At →
    (past : List (Event T)) → IsPast z t parties past → (party : ℕ) → IsAtPlace t At (call_of party past) (hold_of t party past)
each_call z t parties At kept past run party = each_rests z t Whatever At (whatever_rests z t At kept) parties tt past run party

pub at_place :
    {T P : Type 0} (z : Arithmetic T) (t : Table T P) (parties : ℕ) (At : P → PendingCall T → Option HoldKind → Type 0) → IsKept t At →
    (past : List (Event T)) → IsPast z t parties past → (party : ℕ) (c : PendingCall T) (place : P) → call_of party past ≡ Some c → stage_of t c ≡ Some place → At place c (hold_of t party past)
at_place z t parties At kept past run party c place called stage = at_place_from_rest z t Whatever At (whatever_rests z t At kept) parties tt past run party c place called stage

-- Of a run, whatever is kept: each call under way is at a place, so an input that is not refused gives an event.

abbrev pub Anywhere : {T P : Type 0} → P → PendingCall T → Option HoldKind → Type 0
Anywhere place c hold = Unit {0}

pub anywhere_kept : {T P : Type 0} (t : Table T P) → IsKept t Anywhere
anywhere_kept t = grind (arith, nat_tests, eqb-true, eqb-false)

-- each call under way is at a place
abbrev pub HavePlaces : {T P : Type 0} → Table T P → List (Event T) → Type 0
HavePlaces t past = (party : ℕ) → IsAtPlace t Anywhere (call_of party past) (hold_of t party past)

pub next_has_places :
    {T P : Type 0} (z : Arithmetic T) (t : Table T P) (parties : ℕ) (past : List (Event T)) (party : ℕ) (input : Input T) (e : Event T) →
    HavePlaces t past → IsNext z t parties past party input e → HavePlaces t (e ∷ past)
next_has_places z t parties past party input e have next =
    let own = subst (λ p. IsNext z t parties past p input e) (sym next.party_is) next in
    one_more t (IsAtPlace t Anywhere) past e have
    (moved_at z t Whatever Anywhere (whatever_rests z t Anywhere (anywhere_kept t)) (call_of e.party past) (hold_of t e.party past) (word_in t past) input e.party _ own.values (fault_at_none t parties past e.party input own.allowed) own.moved (have e.party))

pub gives_event :
    {T P : Type 0} (t : Table T P) (parties : ℕ) (past : List (Event T)) (party : ℕ) (input : Input T) → HavePlaces t past → fault_of t parties past party input ≡ None →
    move_of t (call_of party past) (hold_of t party past) (word_in t past) input ≡ None → ⊥
gives_event t parties past party input h1 h2 h3 = grind (arith, nat_tests, eqb-true, eqb-false)
