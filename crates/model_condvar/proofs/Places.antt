-- What is kept of a call at each place of a condition variable: at the mutex's and the semaphore's rows what these keep.
use Rattle.model_condvar.proofs.Names.{◌≡◌, ◌∙◌, ℕ, ◌+◌, ◌%◌, ◌^◌, ◌==◌, refl, ap, subst, Bool, true, false, cond, is_some, List, [], ◌∷◌, Option, Some, None, arith, ◌≤◌, eqb-true, LastSaw, IsKept, HasSpun, begun_spun, passed_on, AtLock, LockLeads, lock_begins, lock_leads, AtMutex, AtWait, WaitLeads, wait_leads, eqb-false, nat_tests, WaitAction, Word, Wake, Call, Act, Event, Then, HoldKind, After, carried_out, value_told, outcome_of, place_after, within, PendingCall, latest_outcome, event, is_release, hold_after, step_at, hold_fault, answer_fault, choose_fault, is_sight, keeps_asking, spins_in, acts_in, but_last_try, MutexPlace, mutex_intent, mutex_after, acts_of, SemaphorePlace, is_take, is_empty_look, CondvarPlace, permits_for, condvar_begins, condvar_after, condvar_answered, condvar_table, permitted, relocked, is_count, counts_in, since_count, count_read, amount_for, takes_in, is_wake_one, is_read, is_post, spins_on}

-- the call of a notify that wakes so
abbrev pub notify : {T : Type 0} → Wake → Call T
notify Wake.One = Call.NotifyOne
notify Wake.All = Call.NotifyAll

-- how far a `Wait` has come: how often it has changed the waiter count, unlocked, woken one and taken a permit
pub record Progress {T : Type 0} (own : List (Event T)) (counts releases wakes takes : ℕ) : Type 0 where
  pub counted : counts_in own ≡ counts
  pub released : acts_in is_release own ≡ releases
  pub woke : acts_in is_wake_one own ≡ wakes
  pub taken : takes_in own ≡ takes
  -- its latest event is the latest since it changed the count
  pub latest : latest_outcome (since_count own) ≡ latest_outcome own

-- at its last sight of the permits there was none, and before that its closure had answered Abort
pub record SawNone {T : Type 0} (own : List (Event T)) : Type 0 where
  pub before : List (Event T)
  pub saw : LastSaw Word.Value 0 before own
  pub aborted : keeps_asking (since_count before) ≡ false

-- a `Wait` that took no permit saw none
abbrev pub SignalIs : {T : Type 0} → Bool → List (Event T) → Type 0
SignalIs true own = Unit {0}
SignalIs false own = SawNone own

-- a call that waited for a permit and does so no more: its last try may have been in vain too
abbrev pub HasWaited : {T : Type 0} → List (Event T) → Type 0
HasWaited own = but_last_try own (spins_in is_empty_look own) ≤ 10000

abbrev pub took : Bool → ℕ
took signalled = cond signalled 1 0

-- the acts of a notify that has read the waiter count
abbrev pub has_read : {T : Type 0} → ℕ → List (Act T)
has_read waiters = Act.Load Word.Waiters waiters ∷ []

pub amount_is : (wake : Wake) (waiters : ℕ) → permits_for wake waiters ≡ amount_for (Some wake) waiters
amount_is wake waiters = grind (arith, nat_tests, eqb-true, eqb-false)

-- the unlock of a `Wait`
abbrev pub AtRelease : {T : Type 0} → MutexPlace → List (Event T) → Option HoldKind → Type 0
AtRelease MutexPlace.Release own hold = Progress own 1 0 0 0 × HasSpun is_empty_look (record { spins = 0; keep = true }) (since_count own) × (is_some hold ≡ true)
AtRelease MutexPlace.Wake own hold = Progress own 1 1 0 0 × HasSpun is_empty_look (record { spins = 0; keep = true }) (since_count own) × (hold ≡ None)
AtRelease other own hold = ⊥

abbrev pub AtCondvar : {T : Type 0} → CondvarPlace → PendingCall T → Option HoldKind → Type 0
AtCondvar (CondvarPlace.Mutex place) c hold = AtMutex place c hold
AtCondvar (CondvarPlace.Read wake) c hold = (c.call ≡ notify wake) × (latest_outcome c.own ≡ Then.GoesOn) × (acts_in is_read c.own ≡ 0) × (acts_in is_post c.own ≡ 0) × (acts_of c.own ≡ [])
AtCondvar {T} (CondvarPlace.Post wake amount) c hold =
    (c.call ≡ notify wake) × (latest_outcome c.own ≡ Then.GoesOn) × (acts_in is_read c.own ≡ 1) × (acts_in is_post c.own ≡ 0) × (amount ≡ permits_for wake (count_read c.own)) × (acts_of c.own ≡ has_read (count_read c.own))
AtCondvar {T} (CondvarPlace.Wake wake) c hold =
    (c.call ≡ notify wake) × (latest_outcome c.own ≡ Then.GoesOn) × (acts_in is_post c.own ≡ 1) × (value : ℕ) × (acts_of c.own ≡ Act.Add Word.Value value ((value + amount_for (Some wake) (count_read c.own)) % 2 ^ 64) ∷ has_read (count_read c.own))
AtCondvar CondvarPlace.CountIn c hold = (c.call ≡ Call.Wait) × (latest_outcome c.own ≡ Then.GoesOn) × Progress c.own 0 0 0 0 × (is_some hold ≡ true) × (spins_in is_empty_look (since_count c.own) ≡ 0)
AtCondvar (CondvarPlace.Release place) c hold = (c.call ≡ Call.Wait) × (latest_outcome c.own ≡ Then.GoesOn) × AtRelease place c.own hold
AtCondvar (CondvarPlace.Permit place) c hold = (c.call ≡ Call.Wait) × (hold ≡ None) × Progress c.own 1 1 1 0 × AtWait place (since_count c.own)
AtCondvar (CondvarPlace.CountOut signalled) c hold = (c.call ≡ Call.Wait) × (latest_outcome c.own ≡ Then.GoesOn) × (hold ≡ None) × Progress c.own 1 1 1 (took signalled) × SignalIs signalled c.own × HasWaited (since_count c.own)
AtCondvar (CondvarPlace.Relock signalled place) c hold = (c.call ≡ Call.Wait) × (hold ≡ None) × Progress c.own 2 1 1 (took signalled) × SignalIs signalled c.own × AtLock place (since_count c.own)

-- One more event of a `Wait`.

-- an act that leaves the waiter count
pub progress :
    {T : Type 0} (own : List (Event T)) (number : ℕ) (act : Act T) (outcome : Then T) (counts releases wakes takes : ℕ) (frees wake take : Bool) → Progress own counts releases wakes takes →
    is_count act ≡ false → is_release act ≡ frees → is_wake_one act ≡ wake → is_take Word.Value act ≡ take →
    Progress (event number act outcome ∷ own) counts (cond frees 1 0 + releases) (cond wake 1 0 + wakes) (cond take 1 0 + takes)
progress own number act outcome counts releases wakes takes frees wake take h1 h2 h3 h4 h5 = grind (arith, nat_tests, eqb-true, eqb-false)

-- an act that is no sight of the permits
pub signal_stays : {T : Type 0} (signalled : Bool) (own : List (Event T)) (e : Event T) → is_sight Word.Value e.act ≡ false → SignalIs signalled own → SignalIs signalled (e ∷ own)
signal_stays signalled own e h1 h2 = grind (arith, nat_tests, eqb-true, eqb-false)

-- Where a call begins.

begins_at :
    {T : Type 0} (call : Call T) (place : CondvarPlace) (hold : Option HoldKind) → condvar_begins call ≡ Some place → hold_fault {T = T} condvar_table call hold ≡ None →
    AtCondvar {T = T} place (record { call = call; own = [] }) hold
begins_at call place hold h1 h2 = grind (arith, nat_tests, eqb-true, eqb-false)

-- Where a step leads.

mutex_steps :
    {T : Type 0} (place : MutexPlace) (c : PendingCall T) (hold : Option HoldKind) (memory : Word → ℕ) (number : ℕ) (next : CondvarPlace) → AtMutex place c hold →
    place_after {T = T} (within CondvarPlace.Mutex (mutex_after place (value_told {T = T} (carried_out (mutex_intent Word.State place) memory)))) ≡ Some next →
    AtCondvar {T = T} next (record { call = c.call; own = event number (step_at condvar_table (CondvarPlace.Mutex place) hold memory).act (step_at condvar_table (CondvarPlace.Mutex place) hold memory).outcome ∷ c.own })
    (hold_after condvar_table (carried_out {T = T} (mutex_intent Word.State place) memory) (Some c) hold)
mutex_steps place c hold memory number next h1 h2 = grind (arith, nat_tests, eqb-true, eqb-false)

-- a wait for a permit that ends

-- a step for a permit, by how it goes on
permit_leads :
    {T : Type 0} (c : PendingCall T) (hold : Option HoldKind) (number : ℕ) (act : Act T) (a : After T SemaphorePlace) (next : CondvarPlace) → c.call ≡ Call.Wait → hold ≡ None → Progress c.own 1 1 1 0 →
    is_count act ≡ false → is_release act ≡ false → is_wake_one act ≡ false → spins_in is_empty_look (since_count c.own) ≤ 10000 → WaitLeads Word.Value (since_count c.own) number act a → place_after (permitted a) ≡ Some next →
    AtCondvar next (record { call = c.call; own = event number act (outcome_of (permitted a)) ∷ c.own }) hold
permit_leads c hold number act a next h1 h2 h3 h4 h5 h6 h7 h8 h9 = grind (arith, nat_tests, eqb-true, eqb-false)

-- an exchange for the mutex, by how it goes on
relock_leads :
    {T : Type 0} (signalled : Bool) (c : PendingCall T) (hold : Option HoldKind) (number w : ℕ) (done : Bool) (a : After T MutexPlace) (next : CondvarPlace) → c.call ≡ Call.Wait → hold ≡ None →
    Progress c.own 2 1 1 (took signalled) → SignalIs signalled c.own → LockLeads (since_count c.own) number w (Act.Exchange Word.State 0 1 w done) a → place_after (relocked signalled a) ≡ Some next → (w == 0) ≡ done →
    AtCondvar next (record { call = c.call; own = event number (Act.Exchange Word.State 0 1 w done) (outcome_of (relocked signalled a)) ∷ c.own }) (hold_after condvar_table (Act.Exchange Word.State 0 1 w done) (Some c) hold)
relock_leads signalled c hold number w done a next h1 h2 h3 h4 h5 h6 h7 = grind (arith, nat_tests, eqb-true, eqb-false)

steps_at :
    {T : Type 0} (place : CondvarPlace) (c : PendingCall T) (hold : Option HoldKind) (memory : Word → ℕ) (number : ℕ) (next : CondvarPlace) → AtCondvar place c hold →
    place_after {T = T} (condvar_after place (value_told {T = T} (carried_out ((condvar_table {T = T}).intent place hold) memory))) ≡ Some next →
    AtCondvar next (record { call = c.call; own = event number (step_at condvar_table place hold memory).act (step_at condvar_table place hold memory).outcome ∷ c.own }) (hold_after condvar_table (step_at condvar_table place hold memory).act (Some c) hold)
steps_at (CondvarPlace.Mutex place) c hold memory number next at is = mutex_steps place c hold memory number next at is
steps_at {T} (CondvarPlace.Read wake) c hold memory number next at is =
    let n = memory Word.Waiters in
    let made : CondvarPlace.Post wake (permits_for wake n) ≡ next = cc in
    subst (λ p. AtCondvar {T = T} p (record { call = c.call; own = event number (Act.Load Word.Waiters n) Then.GoesOn ∷ c.own }) hold) made
    (at.0, refl, omega (arith, at.2), omega (arith, at.3), refl, ap (λ (made : List (Act T)). Act.Load Word.Waiters n ∷ made) at.4)
steps_at {T} (CondvarPlace.Post wake amount) c hold memory number next at is =
    let made : CondvarPlace.Wake wake ≡ next = cc in
    let v = memory Word.Value in
    let gives : amount ≡ amount_for (Some wake) (count_read c.own) = at.4 ∙ amount_is wake (count_read c.own) in
    let posted : ℕ → Act T = λ k. Act.Add Word.Value v ((v + k) % 2 ^ 64) in
    subst (λ p. AtCondvar {T = T} p (record { call = c.call; own = event number (step_at condvar_table (CondvarPlace.Post wake amount) hold memory).act Then.GoesOn ∷ c.own }) hold) made
    (at.0, refl, omega (arith, at.3), v, ap (λ (k : ℕ). posted k ∷ acts_of c.own) gives ∙ ap (λ (made : List (Act T)). posted (amount_for (Some wake) (count_read c.own)) ∷ made) at.5)
steps_at (CondvarPlace.Wake wake) c hold memory number next at is = absurd cc
steps_at {T} CondvarPlace.CountIn c hold memory number next at is =
    let made : CondvarPlace.Release MutexPlace.Release ≡ next = cc in
    let so : Progress c.own 0 0 0 0 = at.2 in
    subst (λ p. AtCondvar {T = T} p (record { call = c.call; own = event number (step_at condvar_table CondvarPlace.CountIn hold memory).act Then.GoesOn ∷ c.own }) hold) made
    (at.0, refl, (record { counted = omega (arith, so.counted); released = omega (arith, so.released); woke = omega (arith, so.woke); taken = omega (arith, so.taken); latest = refl }, begun_spun is_empty_look, at.3))
steps_at {T} (CondvarPlace.Release MutexPlace.Release) c hold memory number next at is =
    let made : CondvarPlace.Release MutexPlace.Wake ≡ next = cc in
    subst (λ p. AtCondvar {T = T} p (record { call = c.call; own = event number (Act.Store Word.State 0) Then.GoesOn ∷ c.own }) None) made
    (at.0, refl, (progress c.own number (Act.Store Word.State 0) Then.GoesOn 1 0 0 0 true false false at.2.0 refl refl refl refl, passed_on is_empty_look _ (since_count c.own) number (Act.Store Word.State 0) Then.GoesOn at.2.1 refl refl, refl))
steps_at {T} (CondvarPlace.Release MutexPlace.Wake) c hold memory number next at is =
    let made : CondvarPlace.Permit (SemaphorePlace.Look (record { spins = 0; keep = true })) ≡ next = cc in
    subst (λ p. AtCondvar {T = T} p (record { call = c.call; own = event number (Act.Woke Wake.One) Then.GoesOn ∷ c.own }) hold) made
    (at.0, at.2.2, progress c.own number (Act.Woke Wake.One) Then.GoesOn 1 1 0 0 false true false at.2.0 refl refl refl refl, passed_on is_empty_look _ (since_count c.own) number (Act.Woke Wake.One) Then.GoesOn at.2.1 refl refl)
steps_at (CondvarPlace.Release other) c hold memory number next at is = absurd at.2
steps_at (CondvarPlace.Permit (SemaphorePlace.Look patience)) c hold memory number next at is =
    permit_leads c hold number _ _ next at.0 at.1 at.2 refl refl refl (omega (arith, at.3.spun, at.3.within_limit)) (wait_leads Word.Value (SemaphorePlace.Look patience) (since_count c.own) number memory at.3) is
steps_at (CondvarPlace.Permit (SemaphorePlace.Take seen to patience)) c hold memory number next at is =
    permit_leads c hold number _ _ next at.0 at.1 at.2 refl refl refl (omega (arith, at.3.0.spun, at.3.0.within_limit)) (wait_leads Word.Value (SemaphorePlace.Take seen to patience) (since_count c.own) number memory at.3) is
steps_at (CondvarPlace.Permit other) c hold memory number next at is = absurd at.3
steps_at {T} (CondvarPlace.CountOut signalled) c hold memory number next at is =
    let made : CondvarPlace.Relock signalled (MutexPlace.Lock (record { spins = 0; keep = true })) ≡ next = cc in
    let so : Progress c.own 1 1 1 (took signalled) = at.3 in
    let act : Act T = (step_at condvar_table (CondvarPlace.CountOut signalled) hold memory).act in
    subst (λ p. AtCondvar {T = T} p (record { call = c.call; own = event number act Then.GoesOn ∷ c.own }) hold) made
    (at.0, at.2, record { counted = omega (arith, so.counted); released = omega (arith, so.released); woke = omega (arith, so.woke); taken = omega (arith, so.taken); latest = refl }, signal_stays signalled c.own (event number act Then.GoesOn) refl at.4, lock_begins)
steps_at (CondvarPlace.Relock signalled (MutexPlace.Lock patience)) c hold memory number next at is =
    relock_leads signalled c hold number (memory Word.State) (memory Word.State == 0) _ next at.0 at.1 at.2 at.3 (lock_leads Word.State patience (since_count c.own) number (memory Word.State) at.4) is refl
steps_at (CondvarPlace.Relock signalled other) c hold memory number next at is = absurd at.4

-- Where an answer leads.

answers_at :
    {T : Type 0} (place : CondvarPlace) (c : PendingCall T) (hold : Option HoldKind) (action : WaitAction) (number : ℕ) → AtCondvar place c hold → answer_fault (latest_outcome c.own) ≡ None →
    AtCondvar {T = T} (condvar_answered place action) (record { call = c.call; own = event number (Act.Answered action) Then.GoesOn ∷ c.own }) hold
answers_at place c hold action number h1 h2 = grind (arith, nat_tests, eqb-true, eqb-false)

chooses_at :
    {T : Type 0} (place : CondvarPlace) (c : PendingCall T) (hold : Option HoldKind) (choice : Option T) (number : ℕ) → AtCondvar place c hold → choose_fault (latest_outcome c.own) ≡ None →
    AtCondvar {T = T} place (record { call = c.call; own = event number (Act.Chosen choice) Then.GoesOn ∷ c.own }) hold
chooses_at place c hold choice number h1 h2 = grind (arith, nat_tests, eqb-true, eqb-false)

pub condvar_kept : {T : Type 0} → IsKept {T = T} condvar_table AtCondvar
condvar_kept = grind (arith, nat_tests, eqb-true, eqb-false, begins_at, steps_at, answers_at, chooses_at)

-- No call goes on by itself more than 10000 times in one wait.

pub spins_bounded : {T : Type 0} (place : CondvarPlace) (c : PendingCall T) (hold : Option HoldKind) → AtCondvar place c hold → spins_on c.call c.own ≤ 10000
spins_bounded place c hold h1 = grind (arith, nat_tests, eqb-true, eqb-false)
