-- The next event of a run, by its input.
use Rattle.running_model.proofs.Names.{nat_lt, Call, Act, Event, Then, Input, WaitAction, Arithmetic, Table, PendingCall, call_of, hold_of, word_in, latest_outcome, event, CallValues, stage_of, step_at, begin_fault, go_fault, answer_fault, choose_fault, InputValues, IsNext, IsPast, ◌≡◌, ℕ, ◌≤◌, true, List, [], ◌∷◌, Option, Some, None, arith, nat_tests, carried_is_step, eqb-true, eqb-false}

-- More parties may be there.

module _ {T P : Type 0} (z : Arithmetic T) (t : Table T P) where
  next_of_more : (n m : ℕ) (past : List (Event T)) (party : ℕ) (input : Input T) (e : Event T) → n ≤ m → IsNext z t n past party input e → IsNext z t m past party input e
  next_of_more n m past party input e h1 h2 = grind (arith, nat_tests, eqb-true, eqb-false)

  pub run_of_more : (n m : ℕ) (past : List (Event T)) → n ≤ m → IsPast z t n past → IsPast z t m past
  run_of_more n m [] more run = tt
  run_of_more n m (e ∷ past) more run = ((run.0.0, next_of_more n m past e.party run.0.0 e more run.0.1), run_of_more n m past more run.1)

  -- The next event.

  pub begins_next :
      (n : ℕ) (past : List (Event T)) (q : ℕ) (call : Call T) → nat_lt q n ≡ true → call_of q past ≡ None → begin_fault t None (hold_of t q past) call ≡ None → CallValues z call →
      IsNext z t n past q (Input.Begin call) (event q (Act.Begun call) Then.GoesOn)
  begins_next n past q call h1 h2 h3 h4 = grind (arith, nat_tests, eqb-true, eqb-false)

  pub answers_next :
      (n : ℕ) (past : List (Event T)) (q : ℕ) (c : PendingCall T) (action : WaitAction) → nat_lt q n ≡ true → call_of q past ≡ Some c → answer_fault (latest_outcome c.own) ≡ None →
      IsNext z t n past q (Input.Answer action) (event q (Act.Answered action) Then.GoesOn)
  answers_next n past q c action h1 h2 h3 = grind (arith, nat_tests, eqb-true, eqb-false)

  pub chooses_next :
      (n : ℕ) (past : List (Event T)) (q : ℕ) (c : PendingCall T) (choice : Option T) → nat_lt q n ≡ true → call_of q past ≡ Some c → choose_fault (latest_outcome c.own) ≡ None → InputValues z (Input.Choose choice) →
      IsNext z t n past q (Input.Choose choice) (event q (Act.Chosen choice) Then.GoesOn)
  chooses_next n past q c choice h1 h2 h3 h4 = grind (arith, nat_tests, eqb-true, eqb-false)

  pub goes_next :
      (n : ℕ) (past : List (Event T)) (q : ℕ) (c : PendingCall T) (place : P) → nat_lt q n ≡ true → call_of q past ≡ Some c → stage_of t c ≡ Some place → go_fault (latest_outcome c.own) ≡ None →
      IsNext z t n past q Input.Go (event q (step_at t place (hold_of t q past) (word_in t past)).act (step_at t place (hold_of t q past) (word_in t past)).outcome)
  goes_next n past q c place h1 h2 h3 h4 = grind (arith, nat_tests, eqb-true, eqb-false, carried_is_step)
