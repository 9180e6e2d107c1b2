-- The data words and the register, at every prefix of every run.
use Rattle.model_atomic.proofs.Names.{◌≡◌, ◌≢◌, ℕ, ◌==◌, refl, sym, ◌∙◌, ap, subst, true, false, List, [], ◌∷◌, Option, Some, None, ◌⊎◌, inl, inr, arith, eqb-true, eqb_tells, some_same, call_of_same, call_of_other, eqb_same, counted_of, fault_at_none, by_move, carried_goes_on, carried_stage, eqb-false, nat_tests, MatchOption, WaitAction, Word, Call, Act, Answer, Event, Input, Then, HoldKind, After, Arithmetic, IsValue, IsClosed, carried_out, value_told, outcome_of, place_after, Table, PendingCall, call_of, call_after, latest_outcome, holds_of, hold_of, word_in, word_after, event, writes_in, Move, go_fault, stage_of, next_stage, step_at, fault_at, choose_fault, CallValues, InputValues, IsPast, CountsHolds, AtomicPlace, act_of, choice_of, HasChosen, low_told, is_last, acted, register_after, answer_in, answer_of, acts_made, puts, knows, atomic_table, DataIsRegister, AnswersAsRegister, LatestAnswers, KeepsAtomic}
use Rattle.model_events.proofs.Locks.{holds_after}
use Rattle.model_atomic.proofs.Places.{Looks, AtAtomic, begins_at, here}
use Rattle.model_atomic.proofs.Laws.{keeps_lock, causes}
use Rattle.model_atomic.proofs.Apart.{alone, accesses, writes_alone, few_accesses, rests_without}
use Rattle.model_atomic.proofs.NextSteps.{each_steps}

-- the data words and the register's value
pub record Data (T : Type 0) : Type 0 where
  pub low : ℕ
  pub high : ℕ
  pub value : T

abbrev pub data_at : {T : Type 0} → Arithmetic T → T → List (Event T) → Data T
data_at z v past = record { low = word_in (atomic_table z v) past Word.Low; high = word_in (atomic_table z v) past Word.High; value = register_after z v past }

-- the same after an act of this call
abbrev data_after : {T : Type 0} → Arithmetic T → Data T → Option (PendingCall T) → Act T → Data T
data_after z d k act = record { low = word_after Word.Low act d.low; high = word_after Word.High act d.high; value = acted z k act d.value }

abbrev pub Tied : {T : Type 0} → Arithmetic T → Data T → Type 0
Tied z d = z.of_words d.low d.high ≡ d.value

-- what a call that will store both words stores, and answers
pub record Will {T : Type 0} (z : Arithmetic T) (value : T) (c : PendingCall T) (low high : ℕ) (answer : Answer T) : Type 0 where
  pub new : T
  pub is_value : IsValue z new
  pub low_is : low ≡ z.low new
  pub high_is : high ≡ z.high new
  pub act_is : act_of z c.call (choice_of c.own) value ≡ (answer, new)

-- what is so of the data while a call is at this place, and of what the register answered it
abbrev pub DataAt : {T : Type 0} → Arithmetic T → Data T → Option (Answer T) → AtomicPlace T → PendingCall T → Type 0
DataAt z d owed AtomicPlace.Look c = Unit {0}
DataAt z d owed (AtomicPlace.Enter seen to) c = Unit {0}
DataAt z d owed (AtomicPlace.Take call) c = Unit {0}
DataAt z d owed (AtomicPlace.Low call) c = Tied z d
DataAt z d owed (AtomicPlace.High call low) c = Tied z d × (d.low ≡ low)
DataAt z d owed (AtomicPlace.Again old) c = Tied z d × (old ≡ d.value)
DataAt z d owed (AtomicPlace.PutLow low high answer) c = Will z d.value c low high answer
DataAt z d owed (AtomicPlace.PutHigh high answer) c = Will z d.value c d.low high answer
DataAt z d owed (AtomicPlace.Leave answer) c = Tied z d × (owed ≡ Some answer)

-- a call without the lock knows nothing of the data
outside : {T : Type 0} (z : Arithmetic T) (d : Data T) (owed : Option (Answer T)) (place : AtomicPlace T) (c : PendingCall T) → AtAtomic z place c None → DataAt z d owed place c
outside z d owed place c h1 = grind (arith, nat_tests, eqb-true, eqb-false)

-- what is so at a prefix, of the data and of each call under way
pub record AtPrefix {T : Type 0} (z : Arithmetic T) (v : T) (past : List (Event T)) : Type 0 where
  pub value : IsValue z (register_after z v past)
  pub tied : DataIsRegister z v past
  pub each : (party : ℕ) (c : PendingCall T) (place : AtomicPlace T) → call_of party past ≡ Some c → stage_of (atomic_table z v) c ≡ Some place → DataAt z (data_at z v past) (answer_of z v party past) place c

-- an answer, by the call under way
abbrev Says : {T : Type 0} → Arithmetic T → Data T → Option (Answer T) → Option (PendingCall T) → Then T → Type 0
Says z d owed k (Then.Answers answer) = (owed ≡ Some answer) × MatchOption k ⊥ (λ c. (acts_made z c.call c.own ≡ 1) × HasChosen c.call (choice_of c.own))
Says z d owed k (Then.Chooses old) = (old ≡ d.value) × MatchOption k ⊥ (λ c. (c.call ≡ Call.FetchUpdate) × (choice_of c.own ≡ None))
Says z d owed k (Then.Waits seen) = ⊥
Says z d owed k Then.GoesOn = Unit {0}

-- what is so after a move of a party
record Moved {T : Type 0} (z : Arithmetic T) (v : T) (past : List (Event T)) (party : ℕ) (k : Option (PendingCall T)) (m : Move T) : Type 0 where
  value : IsValue z (acted z k m.act (register_after z v past))
  tied : writes_in (holds_after (atomic_table z v) party k m.act (holds_of (atomic_table z v) past)) ≡ 0 → Tied z (data_after z (data_at z v past) k m.act)
  others : (q : ℕ) → q ≢ party → (c : PendingCall T) (place : AtomicPlace T) → call_of q past ≡ Some c → stage_of (atomic_table z v) c ≡ Some place → DataAt z (data_after z (data_at z v past) k m.act) (answer_of z v q past) place c
  own : (c : PendingCall T) (place : AtomicPlace T) → call_after m.outcome (event party m.act m.outcome) k ≡ Some c → stage_of (atomic_table z v) c ≡ Some place →
      DataAt z (data_after z (data_at z v past) k m.act) (answer_in z k m.act (register_after z v past) (answer_of z v party past)) place c
  says : Says z (data_at z v past) (answer_of z v party past) k m.outcome

-- so it is at the next prefix
next_prefix : {T : Type 0} (z : Arithmetic T) (v : T) (past : List (Event T)) (e : Event T) → Moved z v past e.party (call_of e.party past) (record { act = e.act; outcome = e.then }) → AtPrefix z v (e ∷ past)
next_prefix {T} z v past e moved = record { value = moved.value; tied = moved.tied; each = λ q c place called stage. by_party q c place (eqb_tells e.party q) called stage }
  where
    d : Data T
    d = data_at z v (e ∷ past)

    by_party : (q : ℕ) (c : PendingCall T) (place : AtomicPlace T) → (((e.party == q) ≡ true) × (e.party ≡ q)) ⊎ (((e.party == q) ≡ false) × (e.party ≢ q)) →
        call_of q (e ∷ past) ≡ Some c → stage_of (atomic_table z v) c ≡ Some place → DataAt z (data_at z v (e ∷ past)) (answer_of z v q (e ∷ past)) place c
    by_party q c place (inl is) called stage =
        let mine : call_of e.party (e ∷ past) ≡ Some c = subst (λ p. call_of p (e ∷ past) ≡ Some c) (sym is.1) called in
        let here = moved.own c place (sym (call_of_same e.party e.act e.then past) ∙ mine) stage in
        subst (λ p. DataAt z (data_at z v (e ∷ past)) (answer_of z v p (e ∷ past)) place c) is.1 (rw (eqb_same e.party) here)
    by_party q c place (inr other) called stage =
        let was : call_of q past ≡ Some c = sym (call_of_other e.party q e.act e.then past (λ is. other.1 (sym is))) ∙ called in
        rw other.0 (moved.others q (λ is. other.1 (sym is)) c place was stage)

module _ {T : Type 0} (z : Arithmetic T) (v : T) (past : List (Event T)) (party : ℕ) (before : AtPrefix z v past) where
  abbrev t : Table T (AtomicPlace T)
  t = atomic_table z v

  abbrev d : Data T
  d = data_at z v past

  abbrev owed : Option (Answer T)
  owed = answer_of z v party past

  -- a move that changes no data word and not the register
  quiet : (k : Option (PendingCall T)) (m : Move T) → data_after z d k m.act ≡ d → (writes_in (holds_after t party k m.act (holds_of t past)) ≡ 0 → Tied z d) →
      ((c : PendingCall T) (place : AtomicPlace T) → call_after m.outcome (event party m.act m.outcome) k ≡ Some c → stage_of t c ≡ Some place → DataAt z d (answer_in z k m.act (register_after z v past) owed) place c) →
      Says z d owed k m.outcome → Moved z v past party k m
  quiet k m same tied own says = record {
    value = subst (λ (x : Data T). IsValue z x.value) (sym same) before.value;
    tied = λ none. subst (Tied z) (sym same) (tied none);
    others = λ q differ c place called stage. subst (λ (x : Data T). DataAt z x (answer_of z v q past) place c) (sym same) (before.each q c place called stage);
    own = λ c place called stage. subst (λ (x : Data T). DataAt z x (answer_in z k m.act (register_after z v past) owed) place c) (sym same) (own c place called stage);
    says = says;
  }

  -- the call goes on from the place that is next
  goes_to : (place : AtomicPlace T) (c : PendingCall T) (hold : Option HoldKind) (memory : Word → ℕ) (D : AtomicPlace T → PendingCall T → Type 0) → stage_of t c ≡ Some place →
      ((next : AtomicPlace T) → place_after (t.after place (value_told (carried_out (t.intent place hold) memory))) ≡ Some next →
      D next (record { call = c.call; own = event party (step_at t place hold memory).act (step_at t place hold memory).outcome ∷ c.own })) →
      (c' : PendingCall T) (place' : AtomicPlace T) → call_after (step_at t place hold memory).outcome (event party (step_at t place hold memory).act (step_at t place hold memory).outcome) (Some c) ≡ Some c' → stage_of t c' ≡ Some place' → D place' c'
  goes_to place c hold memory D h1 h2 c' place' h3 h4 = grind (arith, nat_tests, eqb-true, eqb-false, carried_goes_on, carried_stage, some_same)

  -- at the place that is next
  at_next : (D : AtomicPlace T → Type 0) (place next : AtomicPlace T) → Some place ≡ Some next → D place → D next
  at_next D place next is at = subst D (some_same place next is) at

  -- The steps.

  module _ (parties : ℕ) (run : IsPast z (atomic_table z v) parties past) (closed : IsClosed z) (c : PendingCall T) (called : call_of party past ≡ Some c) where
    abbrev Step : AtomicPlace T → Type 0
    Step place = Moved z v past party (Some c) (step_at t place (hold_of t party past) (word_in t past))

    counts : CountsHolds (word_in t past Word.State) (holds_of t past)
    counts = (keeps_lock z v parties past run).counts

    steps_look : stage_of t c ≡ Some AtomicPlace.Look → Step AtomicPlace.Look
    steps_look h1 = grind (arith, nat_tests, eqb-true, eqb-false, at_next, goes_to, quiet)

    steps_enter : (seen to : ℕ) → stage_of t c ≡ Some (AtomicPlace.Enter seen to) → AtAtomic z (AtomicPlace.Enter seen to) c (hold_of t party past) → Step (AtomicPlace.Enter seen to)
    steps_enter seen to h1 h2 = grind (arith, nat_tests, eqb-true, eqb-false, goes_to, quiet, at_next, counts, here)

    steps_take : (call : Call T) → stage_of t c ≡ Some (AtomicPlace.Take call) → AtAtomic z (AtomicPlace.Take call) c (hold_of t party past) → Step (AtomicPlace.Take call)
    steps_take call h1 h2 = grind (arith, nat_tests, eqb-true, eqb-false, goes_to, quiet, at_next, counts, here)

    steps_low : (call : Call T) → stage_of t c ≡ Some (AtomicPlace.Low call) → Tied z d → Step (AtomicPlace.Low call)
    steps_low call h1 h2 = grind (arith, nat_tests, eqb-true, eqb-false, at_next, goes_to, quiet)

    -- the load of the high word: the old value is the register's
    module _ (own : List (Event T)) (low : ℕ) (tied : Tied z d) (low_is : d.low ≡ low) (told : low_told own ≡ low) (unchosen : choice_of own ≡ None) where
      abbrev act : Act T
      act = Act.Load Word.High d.high

      old_is : z.of_words low d.high ≡ d.value
      old_is = ap (λ l. z.of_words l d.high) (sym low_is) ∙ tied

      abbrev to : Call T → Then T → PendingCall T
      to call outcome = record { call = call; own = event party act outcome ∷ own }

      abbrev at_call : Call T → PendingCall T
      at_call call = record { call = call; own = own }

      record High (call : Call T) : Type 0 where
        same : acted z (Some (at_call call)) act d.value ≡ d.value
        own_next : (next : AtomicPlace T) → place_after (knows z call (z.of_words low d.high)) ≡ Some next → DataAt z d (answer_in z (Some (at_call call)) act d.value owed) next (to call (outcome_of (knows z call (z.of_words low d.high))))
        says : Says z d owed (Some (at_call call)) (outcome_of (knows z call (z.of_words low d.high)))

      -- where it adds, or writes otherwise what comes of the old value
      changes : (call : Call T) (f : T → T) → IsValue z (f (z.of_words low d.high)) → (knows z call (z.of_words low d.high) ≡ After.At (puts z (f (z.of_words low d.high)) (Answer.Value (z.of_words low d.high)))) → ((o : T) → act_of z call (choice_of own) o ≡ (Answer.Value o, f o)) → is_last z (at_call call) act ≡ false → High call
      changes call f h1 h2 h3 h4 = grind (arith, nat_tests, eqb-true, eqb-false, old_is, at_next)

      high : (call : Call T) → Looks z call → High call
      high call h1 = grind (arith, nat_tests, eqb-true, eqb-false, at_next, changes, old_is)

    steps_high : (call : Call T) (low : ℕ) → stage_of t c ≡ Some (AtomicPlace.High call low) → AtAtomic z (AtomicPlace.High call low) c (hold_of t party past) → Tied z d → d.low ≡ low → Step (AtomicPlace.High call low)
    steps_high call low h1 h2 h3 h4 = grind (arith, nat_tests, eqb-true, eqb-false, goes_to, high, quiet)

    steps_again : (old : T) → stage_of t c ≡ Some (AtomicPlace.Again old) → AtAtomic z (AtomicPlace.Again old) c (hold_of t party past) → go_fault (latest_outcome c.own) ≡ None → Tied z d → old ≡ d.value → Step (AtomicPlace.Again old)
    steps_again old h1 h2 h3 h4 h5 = grind (arith, nat_tests, eqb-true, eqb-false, at_next, goes_to, high, old_is, quiet)

    -- a store of a data word, beside which nobody else has the lock
    nobody_else : hold_of t party past ≡ Some HoldKind.Write → (x : Data T) (q : ℕ) → q ≢ party → (k : PendingCall T) (place : AtomicPlace T) → call_of q past ≡ Some k → stage_of t k ≡ Some place → DataAt z x (answer_of z v q past) place k
    nobody_else held x q differ k place has stage =
        let at = here z v parties past run q k place has stage in
        outside z x (answer_of z v q past) place k (subst (λ h. AtAtomic z place k h) (alone (word_in t past Word.State) party q (holds_of t past) counts held differ) at)

    steps_put_low : (low high : ℕ) (answer : Answer T) → stage_of t c ≡ Some (AtomicPlace.PutLow low high answer) → AtAtomic z (AtomicPlace.PutLow low high answer) c (hold_of t party past) → Will z d.value c low high answer → Step (AtomicPlace.PutLow low high answer)
    steps_put_low low high answer h1 h2 h3 = grind (arith, nat_tests, eqb-true, eqb-false, at_next, goes_to, nobody_else, counted_of)

    steps_put_high : (high : ℕ) (answer : Answer T) → stage_of t c ≡ Some (AtomicPlace.PutHigh high answer) → AtAtomic z (AtomicPlace.PutHigh high answer) c (hold_of t party past) → Will z d.value c d.low high answer → Step (AtomicPlace.PutHigh high answer)
    steps_put_high high answer h1 h2 h3 = grind (arith, nat_tests, eqb-true, eqb-false, at_next, goes_to, nobody_else, counted_of)

    steps_leave : (answer : Answer T) (hold : Option HoldKind) → acts_made z c.call c.own ≡ 1 → HasChosen c.call (choice_of c.own) → Tied z d → owed ≡ Some answer → Moved z v past party (Some c) (step_at t (AtomicPlace.Leave answer) hold (word_in t past))
    steps_leave answer hold h1 h2 h3 h4 = grind (arith, nat_tests, eqb-true, eqb-false, quiet)

    stepped : (place : AtomicPlace T) → stage_of t c ≡ Some place → AtAtomic z place c (hold_of t party past) → DataAt z d owed place c → go_fault (latest_outcome c.own) ≡ None → Step place
    stepped AtomicPlace.Look stage at here free = steps_look stage
    stepped (AtomicPlace.Enter seen to) stage at here free = steps_enter seen to stage at
    stepped (AtomicPlace.Take call) stage at here free = steps_take call stage at
    stepped (AtomicPlace.Low call) stage at here free = steps_low call stage here
    stepped (AtomicPlace.High call low) stage at here free = steps_high call low stage at here.0 here.1
    stepped (AtomicPlace.Again old) stage at here free = steps_again old stage at free here.0 here.1
    stepped (AtomicPlace.PutLow low high answer) stage at here free = steps_put_low low high answer stage at here
    stepped (AtomicPlace.PutHigh high answer) stage at here free = steps_put_high high answer stage at here
    stepped (AtomicPlace.Leave answer) stage at here free = steps_leave answer (hold_of t party past) at.made at.chose here.0 here.1

  -- The inputs that are no steps.

  begun : (k : Option (PendingCall T)) (call : Call T) → CallValues z call → Moved z v past party k (record { act = Act.Begun call; outcome = Then.GoesOn })
  begun k call h1 = grind (arith, nat_tests, eqb-true, eqb-false, begins_at, outside, quiet, some_same)

  answered_same : (k : Option (PendingCall T)) (action : WaitAction) → data_after z d k (Act.Answered action) ≡ d
  answered_same k action = grind (arith, nat_tests, eqb-true, eqb-false)

  -- an answer leaves the call where it is
  stays : (place : AtomicPlace T) (c : PendingCall T) (action : WaitAction) → DataAt z d owed place c → DataAt z d owed place (record { call = c.call; own = event party (Act.Answered action) Then.GoesOn ∷ c.own })
  stays place c action h1 = grind (arith, nat_tests, eqb-true, eqb-false, here, high)

  answered : (k : Option (PendingCall T)) (action : WaitAction) → call_of party past ≡ k → Moved z v past party k (record { act = Act.Answered action; outcome = Then.GoesOn })
  answered None action called = quiet None (record { act = Act.Answered action; outcome = Then.GoesOn }) (answered_same None action) before.tied (λ x place goes stage. absurd cc) tt
  answered (Some c) action called = quiet (Some c) (record { act = Act.Answered action; outcome = Then.GoesOn }) (answered_same (Some c) action) before.tied
      (λ x place goes stage.
      let new : PendingCall T = record { call = c.call; own = event party (Act.Answered action) Then.GoesOn ∷ c.own } in
      let same : new ≡ x = some_same new x goes in
      let now : next_stage t (Act.Answered action) (stage_of t c) ≡ Some place = subst (λ (y : PendingCall T). stage_of t y ≡ Some place) (sym same) stage in
      subst (DataAt z d owed place) same (by_stage (stage_of t c) refl place now)) tt
    where
      by_stage : (s : Option (AtomicPlace T)) → stage_of t c ≡ s → (place : AtomicPlace T) → next_stage t (Act.Answered action) s ≡ Some place → DataAt z d owed place (record { call = c.call; own = event party (Act.Answered action) Then.GoesOn ∷ c.own })
      by_stage s h1 place h2 = grind (arith, nat_tests, eqb-true, eqb-false, at_next, stays)

  chosen_same : (k : Option (PendingCall T)) (choice : Option T) → data_after z d k (Act.Chosen choice) ≡ d
  chosen_same k choice = grind (arith, nat_tests, eqb-true, eqb-false)

  chooses : (place : AtomicPlace T) (c : PendingCall T) (hold : Option HoldKind) (choice : Option T) → AtAtomic z place c hold → DataAt z d owed place c → InputValues z (Input.Choose choice) → choose_fault (latest_outcome c.own) ≡ None →
      DataAt z d owed (t.chosen place choice) (record { call = c.call; own = event party (Act.Chosen choice) Then.GoesOn ∷ c.own })
  chooses place c hold choice h1 h2 h3 h4 = grind (arith, nat_tests, eqb-true, eqb-false, here, high)

  chosen : (parties : ℕ) → IsPast z t parties past → (k : Option (PendingCall T)) (choice : Option T) → call_of party past ≡ k → InputValues z (Input.Choose choice) → fault_at t k (hold_of t party past) (Input.Choose choice) ≡ None →
      Moved z v past party k (record { act = Act.Chosen choice; outcome = Then.GoesOn })
  chosen parties run None choice called value allowed = quiet None (record { act = Act.Chosen choice; outcome = Then.GoesOn }) (chosen_same None choice) before.tied (λ x place goes stage. absurd cc) tt
  chosen parties run (Some c) choice called value allowed = quiet (Some c) (record { act = Act.Chosen choice; outcome = Then.GoesOn }) (chosen_same (Some c) choice) before.tied
      (λ x place goes stage.
      let new : PendingCall T = record { call = c.call; own = event party (Act.Chosen choice) Then.GoesOn ∷ c.own } in
      let same : new ≡ x = some_same new x goes in
      let now : next_stage t (Act.Chosen choice) (stage_of t c) ≡ Some place = subst (λ (y : PendingCall T). stage_of t y ≡ Some place) (sym same) stage in
      subst (DataAt z d owed place) same (by_stage (stage_of t c) refl place now)) tt
    where
      by_stage : (s : Option (AtomicPlace T)) → stage_of t c ≡ s → (place : AtomicPlace T) → next_stage t (Act.Chosen choice) s ≡ Some place → DataAt z d owed place (record { call = c.call; own = event party (Act.Chosen choice) Then.GoesOn ∷ c.own })
      by_stage None stage place now = absurd cc
      by_stage (Some was) stage place now =
          at_next (λ p. DataAt z d owed p (record { call = c.call; own = event party (Act.Chosen choice) Then.GoesOn ∷ c.own })) (t.chosen was choice) place now
          (chooses was c (hold_of t party past) choice (here z v parties past run party c was called stage) (before.each party c was called stage) value allowed)

-- At every prefix.

pub goes_free : {T : Type 0} (t : Table T (AtomicPlace T)) (pending : Option (PendingCall T)) (hold : Option HoldKind) (input : Input T) (c : PendingCall T) → fault_at t pending hold input ≡ None → input ≡ Input.Go → pending ≡ Some c → go_fault (latest_outcome c.own) ≡ None
goes_free t pending hold input c h1 h2 h3 = grind (arith, nat_tests, eqb-true, eqb-false)

moved_by : {T : Type 0} (z : Arithmetic T) → IsClosed z → (v : T) (parties : ℕ) (past : List (Event T)) (e : Event T) → AtPrefix z v past → IsPast z (atomic_table z v) parties (e ∷ past) → Moved z v past e.party (call_of e.party past) (record { act = e.act; outcome = e.then })
moved_by {T} z closed v parties past e before run =
    let table = atomic_table z v in
    let input : Input T = run.0.0 in
    let next = run.0.1 in
    let allowed = fault_at_none table parties past e.party input next.allowed in
    by_move table (call_of e.party past) (hold_of table e.party past) (word_in table past) (λ (k : Option (PendingCall T)) (m : Move T). Moved z v past e.party k m)
    input (record { act = e.act; outcome = e.then })
    (λ call is. begun z v past e.party before (call_of e.party past) call (subst (InputValues z) is next.values))
    (λ action is. answered z v past e.party before (call_of e.party past) action refl)
    (λ choice is. chosen z v past e.party before parties run.1 (call_of e.party past) choice refl (subst (InputValues z) is next.values) (subst (λ (i : Input T). fault_at table (call_of e.party past) (hold_of table e.party past) i ≡ None) is allowed))
    (λ c place goes called stage. stepped z v past e.party before parties run.1 closed c called place stage
    (here z v parties past run.1 e.party c place called stage) (before.each e.party c place called stage)
    (goes_free table (call_of e.party past) (hold_of table e.party past) input c allowed goes called))
    next.moved

pub keeps : {T : Type 0} (z : Arithmetic T) → IsClosed z → (v : T) (parties : ℕ) (past : List (Event T)) → IsValue z v → IsPast z (atomic_table z v) parties past → AtPrefix z v past
keeps z closed v parties [] is run = record { value = is; tied = λ none. is; each = λ party c place called stage. absurd cc }
keeps z closed v parties (e ∷ past) is run = next_prefix z v past e (moved_by z closed v parties past e (keeps z closed v parties past is run.1) run)

says_so : {T : Type 0} (z : Arithmetic T) (v : T) (party : ℕ) (past : List (Event T)) (o : Then T) → Says z (data_at z v past) (answer_of z v party past) (call_of party past) o → AnswersAsRegister z v party past o
says_so z v party past o h1 = grind (arith, nat_tests, eqb-true, eqb-false)

pub keeps_atomic : {T : Type 0} (z : Arithmetic T) → IsClosed z → (v : T) (parties : ℕ) (past : List (Event T)) → IsValue z v → IsPast z (atomic_table z v) parties past → KeepsAtomic z v past
keeps_atomic {T} z closed v parties past is run =
    let lock = keeps_lock z v parties past run in
    record {
      told = lock.told;
      exclusive = lock.exclusive;
      cause = causes z v parties past run;
      law =
          record {
            counts = lock.counts;
            held = (keeps z closed v parties past is run).tied;
            register = latest past run;
            accesses = accesses z v parties past run;
            apart = writes_alone z v parties past run;
            few = few_accesses z v parties past run;
            rests = rests_without z v parties past run;
            steps = each_steps z v parties past run;
          };
    }
  where
    latest : (before : List (Event T)) → IsPast z (atomic_table z v) parties before → LatestAnswers z v before
    latest [] goes = tt
    latest (e ∷ before) goes = says_so z v e.party before e.then (moved_by z closed v parties before e (keeps z closed v parties before is goes.1) goes).says
