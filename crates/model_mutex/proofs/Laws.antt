-- A mutex keeps its law at every prefix of every run.
use Rattle.model_mutex.proofs.Names.{◌≡◌, ◌≤◌, ℕ, refl, sym, ◌∙◌, subst, true, false, is_some, List, [], ◌∷◌, Option, Some, None, ◌↔◌, arith, ◌<◌, eqb-true, eqb-false, nat_tests, Descends, ends_within, hold_of_same, by_move, tells_memory, IsKept, at_place, waits_first, waits_as, spins_no_more, IsLock, IsLockIntent, IsFreeOrHeld, lock_word, lock_exclusive, MatchBool, MatchOption, WaitAction, Word, Call, Act, Answer, Event, Then, HoldKind, Table, carried_out, value_told, place_after, same_word, PendingCall, call_of, holds_of, hold_of, hold_after, word_in, latest_outcome, event, Move, step_at, hold_fault, answer_fault, choose_fault, is_step, sight_of, is_sight, keeps_asking, spins_in, WhereAsked, Lacks, is_refusal, MutexPlace, mutex_table, mutex_begins, mutex_intent, mutex_after, mutex_answered, LockCause, HasTried, answer_of, acts_of, IsLockAnswer, lock_spins, steps_on, MutexStep, KeepsMutex, mutex_most, mutex_waiting}
use Rattle.model_events.specs.Exports.{Arithmetic, IsPast}
use Rattle.model_mutex.proofs.LockSteps.{HasTriedSo}

-- What is kept of a call at its place.

abbrev pub AtMutex : {T : Type 0} → MutexPlace → PendingCall T → Option HoldKind → Type 0
AtMutex MutexPlace.TryLock c hold = (c.call ≡ Call.TryLock) × (hold ≡ None) × (c.own ≡ [])
AtMutex (MutexPlace.Lock patience) c hold = (c.call ≡ Call.Lock) × HasTriedSo patience c.own × (hold ≡ None)
AtMutex MutexPlace.Release c hold = (c.call ≡ Call.Unlock) × (is_some hold ≡ true) × (c.own ≡ [])
AtMutex MutexPlace.Wake c hold = (c.call ≡ Call.Unlock) × (acts_of c.own ≡ Act.Store Word.State 0 ∷ []) × (latest_outcome c.own ≡ Then.GoesOn) × (hold ≡ None) × (spins_in is_step c.own ≡ 1)

-- Where a call begins.

pub begins_at :
    {T : Type 0} (call : Call T) (place : MutexPlace) (hold : Option HoldKind) → mutex_begins call ≡ Some place → hold_fault {T = T} mutex_table call hold ≡ None →
    AtMutex {T = T} place (record { call = call; own = [] }) hold
begins_at call place hold h1 h2 = grind (arith, nat_tests, eqb-true, eqb-false)

-- Where a step leads.

-- a call that is at an exchange of its `Lock`

pub steps_at :
    {T P : Type 0} (t : Table T P) (place : MutexPlace) (c : PendingCall T) (hold : Option HoldKind) (memory : Word → ℕ) (number : ℕ) (next : MutexPlace) → AtMutex place c hold →
    place_after {T = T} (mutex_after place (value_told {T = T} (carried_out (mutex_intent Word.State place) memory))) ≡ Some next →
    AtMutex next (record { call = c.call; own = event number (step_at mutex_table place hold memory).act (step_at mutex_table place hold memory).outcome ∷ c.own })
    (hold_after t (carried_out {T = T} (mutex_intent Word.State place) memory) (Some c) hold)
steps_at t place c hold memory number next h1 h2 = grind (arith, nat_tests, eqb-true, eqb-false)

-- Where an answer leads.

-- no closure is asked where the call goes on by itself
pub not_asked : {T : Type 0} (outcome : Then T) (A : Type 0) → outcome ≡ Then.GoesOn → answer_fault outcome ≡ None → A
not_asked {T} outcome A goes waits = let no : answer_fault {T = T} Then.GoesOn ≡ None = subst (λ (o : Then T). answer_fault o ≡ None) goes waits in absurd cc

pub answers_at :
    {T : Type 0} (place : MutexPlace) (c : PendingCall T) (hold : Option HoldKind) (action : WaitAction) (number : ℕ) → AtMutex place c hold → answer_fault (latest_outcome c.own) ≡ None →
    AtMutex {T = T} (mutex_answered place action) (record { call = c.call; own = event number (Act.Answered action) Then.GoesOn ∷ c.own }) hold
answers_at place c hold action number h1 h2 = grind (arith, nat_tests, eqb-true, eqb-false)

pub chooses_at :
    {T : Type 0} (place : MutexPlace) (c : PendingCall T) (hold : Option HoldKind) (choice : Option T) (number : ℕ) → AtMutex place c hold → choose_fault (latest_outcome c.own) ≡ None →
    AtMutex {T = T} place (record { call = c.call; own = event number (Act.Chosen choice) Then.GoesOn ∷ c.own }) hold
chooses_at place c hold choice number h1 h2 = grind (arith, nat_tests, eqb-true, eqb-false)

pub mutex_kept : {T : Type 0} → IsKept {T = T} mutex_table AtMutex
mutex_kept = grind (arith, nat_tests, eqb-true, eqb-false)

-- No call goes on by itself more than 10000 times.
pub spins_bounded : {T : Type 0} (place : MutexPlace) (c : PendingCall T) (hold : Option HoldKind) → AtMutex place c hold → spins_in is_step c.own ≤ 10000
spins_bounded place c hold h1 = grind (arith, nat_tests, eqb-true, eqb-false)

-- A mutex is a lock for one.

-- a step of a mutex, where its locking calls are granted the write hold
pub lock_intent :
    {T : Type 0} (grant : Call T → Option HoldKind) (place : MutexPlace) (c : PendingCall T) (hold : Option HoldKind) → grant Call.Lock ≡ Some HoldKind.Write → grant Call.TryLock ≡ Some HoldKind.Write → AtMutex place c hold →
    IsLockIntent {T = T} (grant c.call) hold (mutex_intent Word.State place)
lock_intent grant place c hold h1 h2 h3 = grind (arith, nat_tests, eqb-true, eqb-false)

pub mutex_is_lock : {T : Type 0} (z : Arithmetic T) (parties : ℕ) → IsLock {T = T} z mutex_table parties
mutex_is_lock z parties =
    record {
      opens = refl;
      steps = λ past party c place run called stage. lock_intent (λ call. mutex_table.grant call 0 1) place c (hold_of mutex_table party past) refl refl (at_place z mutex_table parties AtMutex mutex_kept past run party c place called stage);
    }

-- What one more event tells.

-- what is so of a call where it asks its wait closure
abbrev pub IsAskedSo : {T : Type 0} → PendingCall T → Act T → ℕ → Type 0
IsAskedSo c act told = (lock_spins c.call c.own ≡ 10000) × (sight_of Word.State act ≡ Some told) × (keeps_asking c.own ≡ true)

-- of a step of a mutex, alone or inside another object, where the party had this hold before it
pub record EventLaw {T P : Type 0} (t : Table T P) (party : ℕ) (past : List (Event T)) (hold : Option HoldKind) (pending : Option (PendingCall T)) (m : Move T) : Type 0 where
  pub cause : MatchBool (is_refusal m.outcome) (MatchOption pending ⊥ (λ c. LockCause t c.call party (event party m.act m.outcome ∷ past))) (Unit {0})
  pub exact :
      MatchOption pending (Unit {0})
      (λ c. c.call ≡ Call.TryLock → is_sight Word.State m.act ≡ true → ((m.outcome ≡ Then.Answers Answer.Success) ↔ (holds_of t past ≡ [])))
  pub answers :
      MatchOption (answer_of m.outcome) (Unit {0})
      (λ answer. MatchOption pending ⊥ (λ c. IsLockAnswer c.call (m.act ∷ acts_of c.own) (hold_after t m.act pending hold) answer))
  pub asks : WhereAsked IsAskedSo pending m.act m.outcome
  pub tries : MatchBool (is_refusal m.outcome) (MatchOption pending ⊥ (λ c. HasTried c.call (event party m.act m.outcome ∷ c.own))) (Unit {0})
  pub steps : MatchBool (is_step m.act) (MatchOption pending ⊥ (λ c. MutexStep c.call c.own m.act m.outcome)) (Unit {0})

pub another : {T : Type 0} (one other : Call T) (A : Type 0) → one ≡ other → (one ≡ Call.TryLock → ⊥) → other ≡ Call.TryLock → A
another one other A is not_try try = absurd (not_try (is ∙ try))

-- the table's locking calls are granted the write hold
pub record GrantsWrite {T P : Type 0} (t : Table T P) : Type 0 where
  pub locks : t.grant Call.Lock 0 1 ≡ Some HoldKind.Write
  pub tries : t.grant Call.TryLock 0 1 ≡ Some HoldKind.Write

-- each step is its call's next, also of a mutex inside another object
pub next_step :
    {T : Type 0} (place : MutexPlace) (c : PendingCall T) (hold : Option HoldKind) (memory : Word → ℕ) → AtMutex place c hold →
    MutexStep {T = T} c.call c.own (step_at mutex_table place hold memory).act (step_at mutex_table place hold memory).outcome
next_step place c hold memory h1 = grind (arith, nat_tests, eqb-true, eqb-false)

pub step_law :
    {T P : Type 0} (t : Table T P) (party : ℕ) (past : List (Event T)) (c : PendingCall T) (place : MutexPlace) (hold : Option HoldKind) (memory : Word → ℕ) → GrantsWrite t → call_of party past ≡ Some c → AtMutex place c hold →
    IsFreeOrHeld (memory Word.State) (holds_of t past) → EventLaw t party past hold (Some c) (step_at mutex_table place hold memory)
step_law t party past c place hold memory h1 h2 h3 h4 = grind (arith, nat_tests, eqb-true, eqb-false)

silent : {T P : Type 0} (t : Table T P) (party : ℕ) (past : List (Event T)) (hold : Option HoldKind) (pending : Option (PendingCall T)) (act : Act T) → is_sight Word.State act ≡ false → is_step act ≡ false → EventLaw t party past hold pending (record { act = act; outcome = Then.GoesOn })
silent t party past hold pending act h1 h2 = grind (arith, nat_tests, eqb-true, eqb-false)

event_law :
    {T : Type 0} (z : Arithmetic T) (parties : ℕ) (past : List (Event T)) (e : Event T) → IsPast z mutex_table parties (e ∷ past) →
    EventLaw mutex_table e.party past (hold_of mutex_table e.party past) (call_of e.party past) (record { act = e.act; outcome = e.then })
event_law {T} z parties past e run =
    let hold = hold_of mutex_table e.party past in
    let pending = call_of e.party past in
    by_move mutex_table pending hold (word_in mutex_table past) (λ (k : Option (PendingCall T)) (m : Move T). EventLaw mutex_table e.party past hold k m)
    run.0.0 (record { act = e.act; outcome = e.then })
    (λ call _. silent mutex_table e.party past hold pending (Act.Begun call) refl refl) (λ action _. silent mutex_table e.party past hold pending (Act.Answered action) refl refl) (λ choice _. silent mutex_table e.party past hold pending (Act.Chosen choice) refl refl)
    (λ c place _ called stage.
    step_law mutex_table e.party past c place hold (word_in mutex_table past) (record { locks = refl; tries = refl }) called (at_place z mutex_table parties AtMutex mutex_kept past run.1 e.party c place called stage)
    (lock_word z mutex_table parties (mutex_is_lock z parties) past run.1))
    run.0.1.moved

-- and a call that waits for nobody has fewer steps left at each place

abbrev pub mutex_rest : MutexPlace → Option ℕ
mutex_rest MutexPlace.TryLock = Some 1
mutex_rest (MutexPlace.Lock patience) = None
mutex_rest MutexPlace.Release = Some 2
mutex_rest MutexPlace.Wake = Some 1

mutex_begun : {T : Type 0} (call : Call T) (place : MutexPlace) (steps : ℕ) → mutex_begins call ≡ Some place → mutex_most call ≡ Some steps → (left : ℕ) × (mutex_rest place ≡ Some left) × (left ≤ steps)
mutex_begun call place steps h1 h2 = grind (arith, nat_tests, eqb-true, eqb-false)

pub mutex_goes :
    (T : Type 0) (place next : MutexPlace) (told : Option ℕ) (left : ℕ) → mutex_rest place ≡ Some left → place_after (mutex_after {T = T} place told) ≡ Some next → (fewer : ℕ) × (mutex_rest next ≡ Some fewer) × (fewer < left)
mutex_goes T place next told left h1 h2 = grind (arith, nat_tests, eqb-true, eqb-false)

pub mutex_some : (place : MutexPlace) (left : ℕ) → mutex_rest place ≡ Some left → 0 < left
mutex_some place left h1 = grind (arith, nat_tests, eqb-true, eqb-false)

pub mutex_answered_rest : (place : MutexPlace) (action : WaitAction) → mutex_rest (mutex_answered place action) ≡ mutex_rest place
mutex_answered_rest place action = grind (arith, nat_tests, eqb-true, eqb-false)

mutex_descends : {T : Type 0} → Descends {T = T} mutex_table mutex_most mutex_rest
mutex_descends {T} = record { begins = mutex_begun; goes = mutex_goes T; some = mutex_some; answered = mutex_answered_rest; chosen = λ place choice. refl }

pub keeps_mutex : {T : Type 0} (z : Arithmetic T) (parties : ℕ) (past : List (Event T)) → IsPast z mutex_table parties past → KeepsMutex past
keeps_mutex z parties [] run =
    record {
      told = tt;
      exclusive = lock_exclusive 0 [] (lock_word z mutex_table parties (mutex_is_lock z parties) [] run);
      cause = tt;
      law = record { exact = tt; answers = tt; waits = waits_first mutex_waiting; tries = tt; steps = tt; within = λ party. tt };
    }
keeps_mutex {T} z parties (e ∷ past) run =
    let event = event_law z parties past e run in
    let answered =
    subst (λ h. MatchOption (answer_of e.then) (Unit {0}) (λ answer. MatchOption (call_of e.party past) ⊥ (λ c. IsLockAnswer c.call (e.act ∷ acts_of c.own) h answer)))
    (sym (hold_of_same mutex_table e.party e.act e.then past)) event.answers in
    record {
      told = tells_memory z mutex_table parties (e ∷ past) run;
      exclusive = lock_exclusive _ (holds_of mutex_table (e ∷ past)) (lock_word z mutex_table parties (mutex_is_lock z parties) (e ∷ past) run);
      cause = event.cause;
      law = record {
        exact = event.exact;
        answers = answered;
        waits = waits_as mutex_waiting past e event.asks (spins_no_more z mutex_table parties AtMutex steps_on mutex_kept spins_bounded (e ∷ past) run);
        tries = event.tries;
        steps = event.steps;
        within = ends_within mutex_table mutex_most mutex_rest mutex_descends z parties (e ∷ past) run;
      };
    }

-- a mutex has no other word
pub mutex_lacks : (T : Type 0) (word : Word) → same_word Word.State word ≡ false → Lacks {T = T} mutex_table word
mutex_lacks T word h1 = grind (arith, nat_tests, eqb-true, eqb-false)
