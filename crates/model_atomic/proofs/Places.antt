-- What is kept of a call at each place of an atomic.
use Rattle.model_atomic.proofs.Names.{eqb-false, eqb-true, ◌≡◌, ℕ, ◌+◌, ◌-◌, ◌^◌, ◌<◌, refl, subst, Bool, true, false, is_some, List, [], ◌∷◌, Option, Some, None, ◌⊎◌, arith, nat_tests, some_same, IsKeptFromRest, at_place_from_rest, not, WaitAction, Word, Call, Act, Answer, Event, Input, Then, HoldKind, After, Arithmetic, carried_out, value_told, place_after, PendingCall, call_of, hold_of, latest_outcome, hold_after, event, stage_of, step_at, go_fault, answer_fault, choose_fault, CallValues, InputValues, is_refusal, acts_in, IsPast, lets_readers_in, AtomicPlace, choice_of, low_told, is_last, acts_made, is_data_access, HasChosen, atomic_begins, atomic_grant, compares, atomic_table}

abbrev pub is_store : {T : Type 0} → Call T → Bool
is_store (Call.Store x) = true
is_store other = false

-- it has not acted yet, and goes on by itself
pub record Fresh {T : Type 0} (z : Arithmetic T) (call : Call T) (own : List (Event T)) : Type 0 where
  pub unchosen : choice_of own ≡ None
  pub unmade : acts_made z call own ≡ 0
  pub goes : latest_outcome own ≡ Then.GoesOn

-- it has moreover neither read nor written a data word
pub record Outside {T : Type 0} (z : Arithmetic T) (call : Call T) (own : List (Event T)) : Type 0 where
  pub fresh : Fresh z call own
  pub untouched : acts_in is_data_access own ≡ 0

-- a `FetchUpdate` puts what its closure chose
abbrev pub HasSome : {T : Type 0} → Call T → Option (Option T) → Type 0
HasSome Call.FetchUpdate (Some choice) = is_some choice ≡ true
HasSome Call.FetchUpdate None = ⊥
HasSome other choice = Unit {0}

-- it has the lock for writing, and has not acted yet
pub record Puts {T : Type 0} (z : Arithmetic T) (most : ℕ) (answer : Answer T) (call : Call T) (own : List (Event T)) (hold : Option HoldKind) : Type 0 where
  pub held : hold ≡ Some HoldKind.Write
  pub unmade : acts_made z call own ≡ 0
  pub goes : latest_outcome own ≡ Then.GoesOn
  pub said : is_refusal (Then.Answers answer) ≡ false
  pub chose : HasSome call (choice_of own)
  pub few : acts_in is_data_access own < most

pub record Leaves {T : Type 0} (z : Arithmetic T) (answer : Answer T) (call : Call T) (own : List (Event T)) (hold : Option HoldKind) : Type 0 where
  pub held : is_some hold ≡ true
  pub made : acts_made z call own ≡ 1
  pub goes : latest_outcome own ≡ Then.GoesOn
  pub said : is_refusal (Then.Answers answer) ≡ false
  pub chose : HasChosen call (choice_of own)
  pub few : acts_in is_data_access own < 5

pub record Asks {T : Type 0} (z : Arithmetic T) (old : T) (call : Call T) (own : List (Event T)) (hold : Option HoldKind) : Type 0 where
  pub held : hold ≡ Some HoldKind.Write
  pub unmade : acts_made z call own ≡ 0
  pub looked : acts_in is_data_access own ≡ 2
  pub chooses : ((latest_outcome own ≡ Then.Chooses old) × (choice_of own ≡ None)) ⊎ ((latest_outcome own ≡ Then.GoesOn) × (choice_of own ≡ Some None))

abbrev pub Enters : ℕ → ℕ → Type 0
Enters seen to = (to ≡ seen + 1) × (seen < 2 ^ 64 - 2)

-- a call that may look at the data, or write them
abbrev pub Looks : {T : Type 0} → Arithmetic T → Call T → Type 0
Looks z call = (is_some (atomic_grant call) ≡ true) × (is_store call ≡ false) × CallValues z call

abbrev pub AtAtomic : {T : Type 0} → Arithmetic T → AtomicPlace T → PendingCall T → Option HoldKind → Type 0
AtAtomic z AtomicPlace.Look c hold = (c.call ≡ Call.Load) × (hold ≡ None) × Outside z c.call c.own
AtAtomic z (AtomicPlace.Enter seen to) c hold = (c.call ≡ Call.Load) × (hold ≡ None) × Enters seen to × Outside z c.call c.own
AtAtomic z (AtomicPlace.Take call) c hold = (c.call ≡ call) × (hold ≡ None) × (atomic_grant call ≡ Some HoldKind.Write) × CallValues z call × Outside z c.call c.own
AtAtomic z (AtomicPlace.Low call) c hold = (c.call ≡ call) × (hold ≡ atomic_grant call) × Looks z call × Outside z c.call c.own
AtAtomic z (AtomicPlace.High call low) c hold = (c.call ≡ call) × (hold ≡ atomic_grant call) × Looks z call × Fresh z c.call c.own × (low_told c.own ≡ low) × (acts_in is_data_access c.own ≡ 1)
AtAtomic z (AtomicPlace.Again old) c hold = (c.call ≡ Call.FetchUpdate) × Asks z old c.call c.own hold
AtAtomic z (AtomicPlace.PutLow low high answer) c hold = Puts z 3 answer c.call c.own hold
AtAtomic z (AtomicPlace.PutHigh high answer) c hold = Puts z 4 answer c.call c.own hold
AtAtomic z (AtomicPlace.Leave answer) c hold = Leaves z answer c.call c.own hold

-- the place that is next
leads : {T : Type 0} (z : Arithmetic T) (place next : AtomicPlace T) (c : PendingCall T) (hold : Option HoldKind) → Some place ≡ Some next → AtAtomic z place c hold → AtAtomic z next c hold
leads z place next c hold is at = subst (λ p. AtAtomic z p c hold) (some_same place next is) at

-- Where a call begins.

pub begins_at : {T : Type 0} (z : Arithmetic T) (call : Call T) (place : AtomicPlace T) (hold : Option HoldKind) → atomic_begins call ≡ Some place → CallValues z call → hold ≡ None → AtAtomic z place (record { call = call; own = [] }) hold
begins_at z call place hold h1 h2 h3 = grind (arith, nat_tests, eqb-true, eqb-false)

-- Where a step leads.

pub room : (v : ℕ) → lets_readers_in v ≡ true → v < 2 ^ 64 - 2
room v is = grind (arith, nat_tests)

-- the load of the high word, by which the old value is known

module _ {T : Type 0} (z : Arithmetic T) (own : List (Event T)) (low w number : ℕ) (hold : Option HoldKind) (next : AtomicPlace T) (looked : acts_in is_data_access own ≡ 1) where
  old : T
  old = z.of_words low w

  abbrev after_look : Call T → Then T → PendingCall T
  after_look call outcome = record { call = call; own = event number (Act.Load Word.High w) outcome ∷ own }

  compare_leads : (call : Call T) (new : T) (b : Bool) → hold ≡ Some HoldKind.Write → Fresh z call own → is_last z (record { call = call; own = own }) (Act.Load Word.High w) ≡ not b → HasSome call (choice_of own) →
      ◌≡◌ {A = Option (AtomicPlace T)} (Some (compares z b (z.of_words low w) new)) (Some next) → AtAtomic z next (after_look call Then.GoesOn) hold
  compare_leads call new b h1 h2 h3 h4 h5 = grind (arith, nat_tests, eqb-true, eqb-false, leads)

steps_at :
    {T : Type 0} (z : Arithmetic T) (v : T) (place : AtomicPlace T) (c : PendingCall T) (hold : Option HoldKind) (memory : Word → ℕ) (number : ℕ) (next : AtomicPlace T) → AtAtomic z place c hold → go_fault (latest_outcome c.own) ≡ None →
    place_after ((atomic_table z v).after place (value_told (carried_out ((atomic_table z v).intent place hold) memory))) ≡ Some next →
    AtAtomic z next (record { call = c.call; own = event number (step_at (atomic_table z v) place hold memory).act (step_at (atomic_table z v) place hold memory).outcome ∷ c.own })
    (hold_after (atomic_table z v) (step_at (atomic_table z v) place hold memory).act (Some c) hold)
steps_at z v place c hold memory number next h1 h2 h3 = grind (arith, nat_tests, eqb-true, eqb-false, leads, compare_leads, old)

-- Where an answer leads: no call stands at a wait closure.

answers_at :
    {T : Type 0} (z : Arithmetic T) (place : AtomicPlace T) (c : PendingCall T) (hold : Option HoldKind) (action : WaitAction) (number : ℕ) → AtAtomic z place c hold → answer_fault (latest_outcome c.own) ≡ None →
    AtAtomic z place (record { call = c.call; own = event number (Act.Answered action) Then.GoesOn ∷ c.own }) hold
answers_at z place c hold action number h1 h2 = grind (arith, nat_tests, eqb-true, eqb-false)

-- Where a choice leads.

chooses_at :
    {T : Type 0} (z : Arithmetic T) (v : T) (place : AtomicPlace T) (c : PendingCall T) (hold : Option HoldKind) (choice : Option T) (number : ℕ) → AtAtomic z place c hold → choose_fault (latest_outcome c.own) ≡ None → InputValues z (Input.Choose choice) →
    AtAtomic z ((atomic_table z v).chosen place choice) (record { call = c.call; own = event number (Act.Chosen choice) Then.GoesOn ∷ c.own }) hold
chooses_at z v place c hold choice number h1 h2 h3 = grind (arith, nat_tests, eqb-true, eqb-false)

-- Where a call ends.

ends_at :
    {T : Type 0} (z : Arithmetic T) (v : T) (place : AtomicPlace T) (c : PendingCall T) (hold : Option HoldKind) (memory : Word → ℕ) (answer : Answer T) → AtAtomic z place c hold →
    (atomic_table z v).after place (value_told (carried_out ((atomic_table z v).intent place hold) memory)) ≡ After.Ends answer → hold_after (atomic_table z v) (step_at (atomic_table z v) place hold memory).act (Some c) hold ≡ None
ends_at z v place c hold memory answer h1 h2 = grind (arith, nat_tests, eqb-true, eqb-false)

-- a party without a call has no hold
abbrev pub HasNone : Option HoldKind → Type 0
HasNone hold = hold ≡ None

pub atomic_kept : {T : Type 0} (z : Arithmetic T) (v : T) → IsKeptFromRest z (atomic_table z v) HasNone (AtAtomic z)
atomic_kept z v =
    record {
      begins = λ call place hold is allowed values none. begins_at z call place hold is values none;
      steps = steps_at z v;
      answers = answers_at z;
      chooses = chooses_at z v;
      ends = ends_at z v;
    }

-- so it is of each call under way
pub here :
    {T : Type 0} (z : Arithmetic T) (v : T) (parties : ℕ) (past : List (Event T)) → IsPast z (atomic_table z v) parties past → (party : ℕ) (c : PendingCall T) (place : AtomicPlace T) →
    call_of party past ≡ Some c → stage_of (atomic_table z v) c ≡ Some place → AtAtomic z place c (hold_of (atomic_table z v) party past)
here z v parties past run party c place called stage = at_place_from_rest z (atomic_table z v) HasNone (AtAtomic z) (atomic_kept z v) parties refl past run party c place called stage
