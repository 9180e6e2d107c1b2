-- An input gives its one event, and a schedule the events of its run.
use Rattle.sync_play.proofs.Names.{arith, nat_tests, eqb-true, eqb-false, ◌≡◌, ℕ, suc, List, [], ◌∷◌, ◌++◌, length, Some, Result, Ok, Err, refl, sym, ap, subst, ◌∙◌, ok_is, bind_ok, Event, Input, Object, StepFault, Arithmetic, fault_of, IsNext, after, IsRun, LineFault, ◌>>=◌, line_fault_of, event_of, events_of}

-- these events, and then the others
abbrev pub with_front : {A : Type 0} → List A → Result (List A) LineFault → Result (List A) LineFault
with_front front rest = rest >>= λ others. Ok (front ++ others)

pub with_none : {A : Type 0} (rest : Result (List A) LineFault) → with_front [] rest ≡ rest
with_none rest = grind (arith, nat_tests, eqb-true, eqb-false)

with_first : {A : Type 0} (x : A) (front : List A) (rest : Result (List A) LineFault) → (with_front front rest >>= λ others. Ok (x ∷ others)) ≡ with_front (x ∷ front) rest
with_first x front rest = grind (arith, nat_tests, eqb-true, eqb-false)

module _ {T : Type 0} (z : Arithmetic T) where
  abbrev Ev : Type 0
  Ev = Event T

  -- An input gives its one event.

  pub event_is : (o : Object T) (parties : ℕ) (past : List Ev) (party : ℕ) (input : Input T) (e : Ev) → IsNext z o parties past party input e → event_of z o parties past party input ≡ Ok e
  unfolding event_of
  event_is o parties past party input e n =
      rw (n.allowed, n.moved) (ap (λ (p : ℕ). Ok (record { party = p; act = e.act; «then» = e.then })) (sym n.party_is))

  pub event_refused : (o : Object T) (parties : ℕ) (past : List Ev) (party : ℕ) (input : Input T) (fault : StepFault) → fault_of z o parties past party input ≡ Some fault → event_of z o parties past party input ≡ Err (line_fault_of fault)
  unfolding event_of
  event_refused o parties past party input fault e = rw e refl

  -- The events of a schedule, and what follows them.

  bind_to : {A B : Type 0} (r : Result A LineFault) (f : A → Result B LineFault) (x : A) (y : Result B LineFault) → r ≡ Ok x → f x ≡ y → (r >>= f) ≡ y
  bind_to r f x y e k = rw e k

  pub run_is : (o : Object T) (parties : ℕ) (past : List Ev) (schedule : List (ℕ × Input T)) (events : List Ev) → IsRun z o parties past schedule events → events_of z o parties past schedule ≡ Ok events
  unfolding events_of
  run_is o parties past [] [] run = refl
  run_is o parties past [] (e ∷ events) run = absurd run
  run_is o parties past (turn ∷ schedule) [] run = absurd run
  run_is o parties past (turn ∷ schedule) (e ∷ events) run =
      rw (event_is o parties past turn.0 turn.1 e run.0, run_is o parties (e ∷ past) schedule events run.1) refl

  pub run_length : (o : Object T) (parties : ℕ) (past : List Ev) (schedule : List (ℕ × Input T)) (events : List Ev) → IsRun z o parties past schedule events → length schedule ≡ length events
  run_length o parties past [] [] run = refl
  run_length o parties past [] (e ∷ events) run = absurd run
  run_length o parties past (turn ∷ schedule) [] run = absurd run
  run_length o parties past (turn ∷ schedule) (e ∷ events) run = ap (λ (n : ℕ). suc n) (run_length o parties (e ∷ past) schedule events run.1)

  pub events_then : (o : Object T) (parties : ℕ) (past : List Ev) (schedule more : List (ℕ × Input T)) (events : List Ev) → events_of z o parties past schedule ≡ Ok events
      → events_of z o parties past (schedule ++ more) ≡ with_front events (events_of z o parties (after events past) more)
  unfolding events_of
  events_then o parties past [] more events h =
      let none : [] ≡ events = ok_is [] events h in
      subst (λ (es : List Ev). events_of z o parties past more ≡ with_front es (events_of z o parties (after es past) more)) none (sym (with_none (events_of z o parties past more)))
  events_then o parties past (turn ∷ schedule) more events h =
      let a = bind_ok (event_of z o parties past turn.0 turn.1) (λ e. events_of z o parties (e ∷ past) schedule >>= λ es. Ok (e ∷ es)) events h in
      let b = bind_ok (events_of z o parties (a.0 ∷ past) schedule) (λ es. Ok (a.0 ∷ es)) events a.2 in
      let all : a.0 ∷ b.0 ≡ events = ok_is (a.0 ∷ b.0) events b.2 in
      subst (λ (es : List Ev). events_of z o parties past (turn ∷ (schedule ++ more)) ≡ with_front es (events_of z o parties (after es past) more)) all
      (bind_to (event_of z o parties past turn.0 turn.1) (λ e. events_of z o parties (e ∷ past) (schedule ++ more) >>= λ es. Ok (e ∷ es)) a.0 (with_front (a.0 ∷ b.0) (events_of z o parties (after b.0 (a.0 ∷ past)) more)) a.1
      (ap (λ (r : Result (List Ev) LineFault). r >>= λ es. Ok (a.0 ∷ es)) (events_then o parties (a.0 ∷ past) schedule more b.0 b.1)
      ∙ with_first a.0 b.0 (events_of z o parties (after b.0 (a.0 ∷ past)) more)))

  -- The first refused input is the fault.
  pub run_refused : (o : Object T) (parties : ℕ) (past : List Ev) (schedule more : List (ℕ × Input T)) (turn : ℕ × Input T) (events : List Ev) (fault : StepFault) → IsRun z o parties past schedule events
      → fault_of z o parties (after events past) turn.0 turn.1 ≡ Some fault → events_of z o parties past (schedule ++ (turn ∷ more)) ≡ Err (line_fault_of fault)
  unfolding events_of
  run_refused o parties past schedule more turn events fault run refused =
      events_then o parties past schedule (turn ∷ more) events (run_is o parties past schedule events run) ∙ rw (event_refused o parties (after events past) turn.0 turn.1 fault refused) refl
