-- A condition variable keeps its law at every prefix of every run.
use Rattle.model_condvar.proofs.Names.{nat_tests, ◌≡◌, ◌∙◌, ℕ, ◌==◌, refl, sym, subst, Bool, true, false, cond, List, [], ◌∷◌, Option, Some, None, inl, inr, ◌↔◌, arith, eqb-true, eqb-false, hold_of_same, at_last_sight, at_place, fault_at_none, waits_first, waits_as, spins_no_more, LockLeads, lock_leads, AtMutex, WaitLeads, wait_leads, by_move, tells_memory, IsLock, IsLockIntent, IsFreeOrHeld, lock_word, lock_exclusive, IfSome, MatchBool, MatchOption, Word, Wake, Call, Act, Answer, Event, Then, HoldKind, After, Arithmetic, outcome_of, same_word, PendingCall, call_of, call_after, call_going_on, holds_of, hold_of, hold_after, word_in, word_after, event, Move, step_at, fault_at, begin_fault, IsPast, sight_of, is_sight, keeps_asking, WhereAsked, IsTold, Lacks, is_refusal, MutexPlace, mutex_after, acts_of, answer_of, SemaphorePlace, permits_given, permits_taken, is_take, number_answered, CondvarPlace, condvar_table, condvar_grant, permitted, relocked, is_count, counts_in, since_count, is_counted, CountsWaiters, condvar_gives, condvar_value, HasAbortedSince, FoundNoPermit, CondvarCause, IsAnswer, spins_of, gives_up, HasTried, KeepsCondvar, spins_on, refused_by, wait_of, condvar_waiting}
use Rattle.model_events.specs.declared.event.Input.{Input}
use Rattle.model_semaphore.proofs.Permits.{Effect, Tallies, tallies_first, tallies_after, lowered}
use Rattle.model_condvar.proofs.Counts.{CountEffect, none_wait, counts_after}
use Rattle.model_condvar.proofs.NextSteps.{each_steps, each_ends}
use Rattle.model_condvar.proofs.Places.{notify, Progress, SawNone, SignalIs, took, AtCondvar, condvar_kept, spins_bounded}

-- A condition variable has a lock for one: its mutex.

lock_intent : {T : Type 0} (place : CondvarPlace) (c : PendingCall T) (hold : Option HoldKind) → AtCondvar place c hold → IsLockIntent {T = T} (condvar_grant c.call 0 1) hold ((condvar_table {T = T}).intent place hold)
lock_intent place c hold h1 = grind (arith, nat_tests, eqb-true, eqb-false)

pub condvar_is_lock : {T : Type 0} (z : Arithmetic T) (parties : ℕ) → IsLock {T = T} z condvar_table parties
condvar_is_lock z parties =
    record {
      opens = refl;
      steps = λ past party c place run called stage. lock_intent place c (hold_of condvar_table party past) (at_place z condvar_table parties AtCondvar condvar_kept past run party c place called stage);
    }

-- What a step does to the permits.

step_effect :
    {T : Type 0} (place : CondvarPlace) (c : PendingCall T) (hold : Option HoldKind) (memory : Word → ℕ) → AtCondvar place c hold →
    Effect (memory Word.Value) (word_after {T = T} Word.Value (step_at condvar_table place hold memory).act (memory Word.Value)) (condvar_gives {T = T} (step_at condvar_table place hold memory).act (Some c)) (is_take {T = T} Word.Value (step_at condvar_table place hold memory).act)
step_effect place c hold memory h1 = grind (arith, nat_tests, eqb-true, eqb-false)

event_effect :
    {T : Type 0} (z : Arithmetic T) (parties : ℕ) (past : List (Event T)) (e : Event T) → IsPast z condvar_table parties (e ∷ past) →
    Effect (word_in condvar_table past Word.Value) (word_after Word.Value e.act (word_in condvar_table past Word.Value)) (condvar_gives e.act (call_of e.party past)) (is_take Word.Value e.act)
event_effect {T} z parties past e run =
    let v = word_in condvar_table past Word.Value in
    by_move condvar_table (call_of e.party past) (hold_of condvar_table e.party past) (word_in condvar_table past)
    (λ (k : Option (PendingCall T)) (m : Move T). Effect v (word_after Word.Value m.act v) (condvar_gives m.act k) (is_take Word.Value m.act))
    run.0.0 (record { act = e.act; outcome = e.then })
    (λ call _. inl (refl, refl, refl)) (λ action _. inl (refl, refl, refl)) (λ choice _. inl (refl, refl, refl))
    (λ c place _ called stage. step_effect place c (hold_of condvar_table e.party past) (word_in condvar_table past) (at_place z condvar_table parties AtCondvar condvar_kept past run.1 e.party c place called stage))
    run.0.1.moved

pub condvar_tallies :
    {T : Type 0} (z : Arithmetic T) (parties : ℕ) (past : List (Event T)) → IsPast z condvar_table parties past →
    Tallies (word_in condvar_table past Word.Value) (permits_given condvar_gives 0 past) (permits_taken Word.Value past)
condvar_tallies z parties [] run = tallies_first 0 (omega arith)
condvar_tallies z parties (e ∷ past) run = tallies_after _ _ _ _ _ (is_take Word.Value e.act) (condvar_tallies z parties past run.1) (event_effect z parties past e run)

-- A call that saw no permit has that cause.
no_permit :
    {T : Type 0} (z : Arithmetic T) (parties : ℕ) (past : List (Event T)) (party : ℕ) (c : PendingCall T) → IsPast z condvar_table parties past → call_of party past ≡ Some c → SawNone c.own → FoundNoPermit party past
no_permit {T} z parties past party c run called saw =
    at_last_sight z condvar_table parties Word.Value party 0 c.call saw.before (λ before. HasAbortedSince party before × (condvar_value before ≡ 0)) prefix past run c.own called saw.saw
  where
    prefix : (before : List (Event T)) → IsPast z condvar_table parties before → call_of party before ≡ Some (record { call = c.call; own = saw.before }) → word_in condvar_table before Word.Value ≡ 0 →
        HasAbortedSince party before × (condvar_value before ≡ 0)
    prefix before goes was none = (rw was saw.aborted, sym (condvar_tallies z parties before goes).0 ∙ none)

-- What one more event tells.

-- what is so of a call where it asks its wait closure
abbrev IsAskedBy : {T : Type 0} → Call T → List (Event T) → Act T → ℕ → Type 0
IsAskedBy call own act told = (spins_of call own ≡ 10000) × (refused_by call own act ≡ Some told) × (keeps_asking (wait_of call own) ≡ true)

abbrev pub IsAskedSo : {T : Type 0} → PendingCall T → Act T → ℕ → Type 0
IsAskedSo c act told = IsAskedBy c.call c.own act told

pub record EventLaw {T : Type 0} (party : ℕ) (past : List (Event T)) (n : ℕ) (hold : Option HoldKind) (pending : Option (PendingCall T)) (m : Move T) : Type 0 where
  pub count : CountEffect n (word_after Word.Waiters m.act n) (is_count m.act) (is_counted pending) (is_counted (call_after m.outcome (event party m.act m.outcome) pending))
  pub number : number_answered m.outcome ≡ None
  pub cause : MatchBool (is_refusal m.outcome) (MatchOption pending ⊥ (λ c. CondvarCause c.call party (event party m.act m.outcome ∷ past))) (Unit {0})
  pub exact :
      MatchOption pending (Unit {0})
      (λ c. c.call ≡ Call.TryLock → is_sight Word.State m.act ≡ true → ((m.outcome ≡ Then.Answers Answer.Success) ↔ (holds_of condvar_table past ≡ [])))
  pub answers :
      MatchOption (answer_of m.outcome) (Unit {0})
      (λ answer. MatchOption pending ⊥ (λ c. IsAnswer c.call c.own (m.act ∷ acts_of c.own) (hold_after condvar_table m.act pending hold) answer))
  pub asks : WhereAsked IsAskedSo pending m.act m.outcome
  pub tries : MatchBool (gives_up m.outcome) (MatchOption pending ⊥ (λ c. HasTried c.call (event party m.act m.outcome ∷ c.own))) (Unit {0})

-- Whether a call is counted.

counted_by : {T : Type 0} (c : PendingCall T) (n : ℕ) → c.call ≡ Call.Wait → counts_in c.own ≡ n → is_counted (Some c) ≡ (n == 1)
counted_by c n h1 h2 = grind (arith, nat_tests, eqb-true, eqb-false)

-- An event of a `Wait` that does not end it.

going_law :
    {T : Type 0} (party : ℕ) (past : List (Event T)) (n : ℕ) (hold : Option HoldKind) (c : PendingCall T) (act : Act T) (outcome : Then T) → c.call ≡ Call.Wait → answer_of outcome ≡ None →
    CountEffect n (word_after Word.Waiters act n) (is_count act) (is_counted (Some c)) (is_counted (call_going_on act (event party act outcome) (Some c))) → WhereAsked (λ k act told. IsAskedBy Call.Wait k.own act told) (Some c) act outcome →
    EventLaw party past n hold (Some c) (record { act = act; outcome = outcome })
going_law party past n hold c act outcome h1 h2 h3 h4 = grind (arith, nat_tests, eqb-true, eqb-false)

-- its step for a permit, by how it goes on

still_counted :
    {T : Type 0} (n : ℕ) (times : ℕ) (c : PendingCall T) (act : Act T) (e : Event T) → c.call ≡ Call.Wait → counts_in c.own ≡ times → is_count e.act ≡ false → is_count act ≡ false → word_after Word.Waiters act n ≡ n →
    call_going_on act e (Some c) ≡ Some (record { call = c.call; own = e ∷ c.own }) →
    CountEffect n (word_after Word.Waiters act n) (is_count act) (is_counted (Some c)) (is_counted (call_going_on act e (Some c)))
still_counted n times c act e h1 h2 h3 h4 h5 h6 = grind (arith, nat_tests, eqb-true, eqb-false)

permit_law :
    {T : Type 0} (party : ℕ) (past : List (Event T)) (n : ℕ) (hold : Option HoldKind) (c : PendingCall T) (act : Act T) (a : After T SemaphorePlace) → c.call ≡ Call.Wait → counts_in c.own ≡ 1 →
    is_count act ≡ false → word_after Word.Waiters act n ≡ n → ((e : Event T) → call_going_on act e (Some c) ≡ Some (record { call = c.call; own = e ∷ c.own })) → WaitLeads Word.Value (since_count c.own) party act a →
    EventLaw party past n hold (Some c) (record { act = act; outcome = outcome_of (permitted a) })
permit_law party past n hold c act a h1 h2 h3 h4 h5 h6 = grind (arith, nat_tests, eqb-true, eqb-false)

-- its lock of the mutex, by how it goes on

relock_law :
    {T : Type 0} (party : ℕ) (past : List (Event T)) (n : ℕ) (hold : Option HoldKind) (signalled : Bool) (c : PendingCall T) (w : ℕ) (done : Bool) (a : After T MutexPlace) → call_of party past ≡ Some c → c.call ≡ Call.Wait → hold ≡ None →
    Progress c.own 2 1 1 (took signalled) → MatchBool signalled (Unit {0}) (FoundNoPermit party past) → IsFreeOrHeld w (holds_of condvar_table past) → (w == 0) ≡ done → LockLeads (since_count c.own) party w (Act.Exchange Word.State 0 1 w done) a →
    EventLaw party past n hold (Some c) (record { act = Act.Exchange Word.State 0 1 w done; outcome = outcome_of (relocked signalled a) })
relock_law party past n hold signalled c w done a h1 h2 h3 h4 h5 h6 h7 h8 = grind (arith, nat_tests, eqb-true, eqb-false)

-- An event of another call: it is not counted.

-- of a notify

notify_law :
    {T : Type 0} (party : ℕ) (past : List (Event T)) (n : ℕ) (hold : Option HoldKind) (c : PendingCall T) (wake : Wake) (act : Act T) (ends : Bool) → c.call ≡ notify wake → is_count act ≡ false → word_after Word.Waiters act n ≡ n →
    is_sight Word.State act ≡ false → ((e : Event T) → call_going_on act e (Some c) ≡ Some (record { call = c.call; own = e ∷ c.own })) →
    EventLaw party past n hold (Some c) (record { act = act; outcome = cond ends (Then.Answers Answer.Done) Then.GoesOn })
notify_law party past n hold c wake act ends h1 h2 h3 h4 h5 = grind (arith, nat_tests, eqb-true, eqb-false)

-- what the two laws say of a call by its kind is the same

mutex_event :
    {T : Type 0} (party : ℕ) (past : List (Event T)) (n : ℕ) (hold : Option HoldKind) (c : PendingCall T) (place : MutexPlace) (memory : Word → ℕ) → call_of party past ≡ Some c → AtMutex place c hold →
    IsFreeOrHeld (memory Word.State) (holds_of condvar_table past) → EventLaw party past n hold (Some c) (step_at condvar_table (CondvarPlace.Mutex place) hold memory)
mutex_event party past n hold c place memory h1 h2 h3 = grind (arith, nat_tests, eqb-true, eqb-false)

-- An event that is no step: the beginning of a call, and what a closure answers.

begun_law :
    {T : Type 0} (party : ℕ) (past : List (Event T)) (n : ℕ) (hold : Option HoldKind) (pending : Option (PendingCall T)) (call : Call T) → begin_fault condvar_table pending hold call ≡ None →
    EventLaw party past n hold pending (record { act = Act.Begun call; outcome = Then.GoesOn })
begun_law party past n hold pending call h1 = grind (arith, nat_tests, eqb-true, eqb-false)

-- an act that has to do with no word
record IsApart {T : Type 0} (act : Act T) : Type 0 where
  counts : is_count act ≡ false
  mutex : is_sight Word.State act ≡ false

apart_law :
    {T : Type 0} (party : ℕ) (past : List (Event T)) (n : ℕ) (hold : Option HoldKind) (pending : Option (PendingCall T)) (act : Act T) → IsApart act → word_after Word.Waiters act n ≡ n →
    ((c : PendingCall T) (e : Event T) → call_going_on act e (Some c) ≡ Some (record { call = c.call; own = e ∷ c.own })) → ((e : Event T) → call_going_on act e None ≡ None) →
    EventLaw party past n hold pending (record { act = act; outcome = Then.GoesOn })
apart_law party past n hold pending act h1 h2 h3 h4 = grind (arith, nat_tests, eqb-true, eqb-false)

-- Each step.

signal_cause :
    {T : Type 0} (z : Arithmetic T) (parties : ℕ) (past : List (Event T)) (party : ℕ) (c : PendingCall T) (signalled : Bool) → IsPast z condvar_table parties past → call_of party past ≡ Some c → SignalIs signalled c.own →
    MatchBool signalled (Unit {0}) (FoundNoPermit party past)
signal_cause z parties past party c true run called signal = tt
signal_cause z parties past party c false run called signal = no_permit z parties past party c run called signal

step_law :
    {T : Type 0} (z : Arithmetic T) (parties party : ℕ) (past : List (Event T)) (c : PendingCall T) (place : CondvarPlace) (hold : Option HoldKind) (memory : Word → ℕ) → IsPast z condvar_table parties past → call_of party past ≡ Some c →
    AtCondvar place c hold → IsFreeOrHeld (memory Word.State) (holds_of condvar_table past) → EventLaw party past (memory Word.Waiters) hold (Some c) (step_at condvar_table place hold memory)
step_law z parties party past c (CondvarPlace.Mutex place) hold memory run called at law = mutex_event party past (memory Word.Waiters) hold c place memory called at law
step_law {T} z parties party past c (CondvarPlace.Read wake) hold memory run called at law =
    notify_law party past (memory Word.Waiters) hold c wake (Act.Load Word.Waiters (memory Word.Waiters)) false at.0 refl refl refl (λ e. refl)
step_law {T} z parties party past c (CondvarPlace.Post wake amount) hold memory run called at law =
    notify_law party past (memory Word.Waiters) hold c wake (step_at {T = T} condvar_table (CondvarPlace.Post wake amount) hold memory).act false at.0 refl refl refl (λ e. refl)
step_law {T} z parties party past c (CondvarPlace.Wake wake) hold memory run called at law =
    notify_law party past (memory Word.Waiters) hold c wake (Act.Woke wake) true at.0 refl refl refl (λ e. refl)
step_law {T} z parties party past c CondvarPlace.CountIn hold memory run called at law =
    let act : Act T = (step_at condvar_table CondvarPlace.CountIn hold memory).act in
    let so : Progress c.own 0 0 0 0 = at.2 in
    let longer : PendingCall T = record { call = c.call; own = event party act Then.GoesOn ∷ c.own } in
    let now : counts_in longer.own ≡ 1 = omega (arith, so.counted) in
    going_law party past (memory Word.Waiters) hold c act Then.GoesOn at.0 refl (inr (inl (refl, refl, counted_by c 0 at.0 so.counted, counted_by longer 1 at.0 now))) tt
step_law {T} z parties party past c (CondvarPlace.Release MutexPlace.Release) hold memory run called at law =
    let so : Progress c.own 1 0 0 0 = at.2.0 in
    going_law party past (memory Word.Waiters) hold c (Act.Store Word.State 0) Then.GoesOn at.0 refl
    (still_counted (memory Word.Waiters) 1 c (Act.Store Word.State 0) (event party (Act.Store Word.State 0) Then.GoesOn) at.0 so.counted refl refl refl refl) tt
step_law {T} z parties party past c (CondvarPlace.Release MutexPlace.Wake) hold memory run called at law =
    let so : Progress c.own 1 1 0 0 = at.2.0 in
    going_law party past (memory Word.Waiters) hold c (Act.Woke Wake.One) Then.GoesOn at.0 refl
    (still_counted (memory Word.Waiters) 1 c (Act.Woke Wake.One) (event party (Act.Woke Wake.One) Then.GoesOn) at.0 so.counted refl refl refl refl) tt
step_law z parties party past c (CondvarPlace.Release other) hold memory run called at law = absurd at.2
step_law z parties party past c (CondvarPlace.Permit (SemaphorePlace.Look patience)) hold memory run called at law =
    permit_law party past (memory Word.Waiters) hold c _ _ at.0 at.2.counted refl refl (λ e. refl) (wait_leads Word.Value (SemaphorePlace.Look patience) (since_count c.own) party memory at.3)
step_law z parties party past c (CondvarPlace.Permit (SemaphorePlace.Take seen to patience)) hold memory run called at law =
    permit_law party past (memory Word.Waiters) hold c _ _ at.0 at.2.counted refl refl (λ e. refl) (wait_leads Word.Value (SemaphorePlace.Take seen to patience) (since_count c.own) party memory at.3)
step_law z parties party past c (CondvarPlace.Permit other) hold memory run called at law = absurd at.3
step_law {T} z parties party past c (CondvarPlace.CountOut signalled) hold memory run called at law =
    let act : Act T = (step_at condvar_table (CondvarPlace.CountOut signalled) hold memory).act in
    let so : Progress c.own 1 1 1 (took signalled) = at.3 in
    let longer : PendingCall T = record { call = c.call; own = event party act Then.GoesOn ∷ c.own } in
    let now : counts_in longer.own ≡ 2 = omega (arith, so.counted) in
    going_law party past (memory Word.Waiters) hold c act Then.GoesOn at.0 refl (inr (inr (refl, refl, counted_by c 1 at.0 so.counted, counted_by longer 2 at.0 now))) tt
step_law z parties party past c (CondvarPlace.Relock signalled (MutexPlace.Lock patience)) hold memory run called at law =
    let w = memory Word.State in
    relock_law party past (memory Word.Waiters) hold signalled c w (w == 0) (mutex_after (MutexPlace.Lock patience) (Some w)) called at.0 at.1 at.2 (signal_cause z parties past party c signalled run called at.3) law refl
    (lock_leads Word.State patience (since_count c.own) party w at.4)
step_law z parties party past c (CondvarPlace.Relock signalled other) hold memory run called at law = absurd at.4

event_law :
    {T : Type 0} (z : Arithmetic T) (parties : ℕ) (past : List (Event T)) (e : Event T) → IsPast z condvar_table parties (e ∷ past) →
    EventLaw e.party past (word_in condvar_table past Word.Waiters) (hold_of condvar_table e.party past) (call_of e.party past) (record { act = e.act; outcome = e.then })
event_law {T} z parties past e run =
    let pending = call_of e.party past in
    let hold = hold_of condvar_table e.party past in
    let n = word_in condvar_table past Word.Waiters in
    by_move condvar_table pending hold (word_in condvar_table past) (λ (k : Option (PendingCall T)) (m : Move T). EventLaw e.party past n hold k m)
    run.0.0 (record { act = e.act; outcome = e.then })
    (λ call is. begun_law e.party past n hold pending call (subst (λ (i : Input T). fault_at condvar_table pending hold i ≡ None) is (fault_at_none condvar_table parties past e.party run.0.0 run.0.1.allowed)))
    (λ action _. apart_law e.party past n hold pending (Act.Answered action) (record { counts = refl; mutex = refl }) refl (λ c d. refl) (λ d. refl))
    (λ choice _. apart_law e.party past n hold pending (Act.Chosen choice) (record { counts = refl; mutex = refl }) refl (λ c d. refl) (λ d. refl))
    (λ c place _ called stage.
    step_law z parties e.party past c place hold (word_in condvar_table past) run.1 called (at_place z condvar_table parties AtCondvar condvar_kept past run.1 e.party c place called stage)
    (lock_word z condvar_table parties (condvar_is_lock z parties) past run.1))
    run.0.1.moved

-- The law of every run.

waiters_counted : {T : Type 0} (z : Arithmetic T) (parties : ℕ) (past : List (Event T)) → IsPast z condvar_table parties past → CountsWaiters past
waiters_counted z parties [] run = none_wait
waiters_counted z parties (e ∷ past) run = counts_after past e (waiters_counted z parties past run.1) (event_law z parties past e run).count

told_sight : {T : Type 0} (word : Word) (act : Act T) (memory : Word → ℕ) (o : Option ℕ) → sight_of word act ≡ o → IsTold act memory → IfSome o (λ v. v ≡ memory word)
told_sight word act memory o h1 h2 = grind (arith, nat_tests, eqb-true, eqb-false)

pub keeps_condvar : {T : Type 0} (z : Arithmetic T) (parties : ℕ) (past : List (Event T)) → IsPast z condvar_table parties past → KeepsCondvar past
keeps_condvar z parties [] run =
    record {
      told = tt;
      exclusive = lock_exclusive 0 [] (lock_word z condvar_table parties (condvar_is_lock z parties) [] run);
      cause = tt;
      law = record { waiters = none_wait; permits = record { at_most = omega arith; told = tt; lowers = tt }; answers = tt; exact = tt; waits = waits_first condvar_waiting; tries = tt; steps = tt; within = λ party. tt };
    }
keeps_condvar {T} z parties (e ∷ past) run =
    let before = condvar_tallies z parties past run.1 in
    let after = condvar_tallies z parties (e ∷ past) run in
    let event = event_law z parties past e run in
    let told = tells_memory z condvar_table parties (e ∷ past) run in
    let sees : IfSome (sight_of Word.Value e.act) (λ v. v ≡ word_in condvar_table past Word.Value) = told_sight Word.Value e.act (word_in condvar_table past) (sight_of Word.Value e.act) refl told in
    record {
      told = told;
      exclusive = lock_exclusive _ (holds_of condvar_table (e ∷ past)) (lock_word z condvar_table parties (condvar_is_lock z parties) (e ∷ past) run);
      cause = event.cause;
      law = record {
        waiters = waiters_counted z parties (e ∷ past) run;
        permits = record {
          at_most = after.1;
          told = (subst (λ n. IfSome (sight_of Word.Value e.act) (λ v. v ≡ n)) before.0 sees, rw event.number tt);
          lowers = lowered _ _ _ _ _ (is_take Word.Value e.act) before (event_effect z parties past e run);
        };
        answers = subst (λ h. MatchOption (answer_of e.then) (Unit {0}) (λ answer. MatchOption (call_of e.party past) ⊥ (λ c. IsAnswer c.call c.own (e.act ∷ acts_of c.own) h answer)))
            (sym (hold_of_same condvar_table e.party e.act e.then past)) event.answers;
        exact = event.exact;
        waits = waits_as condvar_waiting past e event.asks (spins_no_more z condvar_table parties AtCondvar spins_on condvar_kept spins_bounded (e ∷ past) run);
        tries = event.tries;
        steps = each_steps z parties (e ∷ past) run;
        within = each_ends z parties (e ∷ past) run;
      };
    }

-- a condition variable has no other words
pub condvar_lacks :
    (T : Type 0) (word : Word) → same_word Word.State word ≡ false → same_word Word.Waiters word ≡ false → same_word Word.Value word ≡ false → Lacks {T = T} condvar_table word
condvar_lacks T word h1 h2 h3 = grind (arith, nat_tests, eqb-true, eqb-false)
