-- Each step of a condition variable is its call's next.
use Rattle.model_condvar.proofs.Names.{eqb-false, eqb-true, nat_tests, ◌≡◌, ℕ, ◌+◌, ◌-◌, refl, Bool, true, false, cond, List, [], ◌∷◌, Option, Some, None, ◌≤◌, ◌<◌, arith, IsKept, mutex_rest, WaitAction, Word, Wake, Call, Act, Answer, Event, Then, HoldKind, After, Arithmetic, carried_out, value_told, place_after, within, PendingCall, event, latest_outcome, step_at, answer_fault, choose_fault, is_step, IsPast, is_abort, keeps_asking, spins_in, StepsAs, EndsWithin, Exchanges, MutexPlace, SemaphorePlace, is_empty_look, CondvarPlace, condvar_begins, condvar_after, condvar_answered, condvar_table, permitted, since_count, left_waiting, LooksForPermit, CountsOut, CountedNext, condvar_most, CondvarStep}
use Rattle.model_events.specs.declared.patience.Patience.{Patience}
use Rattle.model_events.proofs.NextStep.{steps_as, Descends, ends_within}
use Rattle.model_condvar.proofs.Places.{AtCondvar, condvar_kept}

-- What the step at a place of a counted `Wait` is, by whether it keeps on asking and how often it has spun.
abbrev Does : {T : Type 0} → CondvarPlace → Bool → ℕ → Act T → Then T → Type 0
Does (CondvarPlace.Release MutexPlace.Release) asks spins act outcome = (act ≡ Act.Store Word.State 0) × (outcome ≡ Then.GoesOn)
Does (CondvarPlace.Release MutexPlace.Wake) asks spins act outcome = (act ≡ Act.Woke Wake.One) × (outcome ≡ Then.GoesOn)
Does (CondvarPlace.Permit (SemaphorePlace.Look patience)) asks spins act outcome = LooksForPermit asks spins act outcome
Does (CondvarPlace.Permit (SemaphorePlace.Take seen to patience)) asks spins act outcome = Exchanges Word.Value seen to Then.GoesOn (left_waiting asks spins) act outcome
Does (CondvarPlace.CountOut signalled) asks spins act outcome = CountsOut act outcome
Does place asks spins act outcome = Unit {0}

-- it is the next of a call with these events since it added itself
abbrev IsNextOf : {T : Type 0} → CondvarPlace → List (Event T) → Type 0
IsNextOf {T} place since =
    (act : Act T) (outcome : Then T) → Does place (keeps_asking since) (spins_in is_empty_look since) act outcome → CountedNext (keeps_asking since) (spins_in is_empty_look since) since act outcome

abbrev HasSeen : {T : Type 0} → CondvarPlace → PendingCall T → Option HoldKind → Type 0
HasSeen (CondvarPlace.Release MutexPlace.Release) c hold = IsNextOf (CondvarPlace.Release MutexPlace.Release) (since_count c.own)
HasSeen (CondvarPlace.Release MutexPlace.Wake) c hold = IsNextOf (CondvarPlace.Release MutexPlace.Wake) (since_count c.own)
HasSeen (CondvarPlace.Permit (SemaphorePlace.Look patience)) c hold = IsNextOf (CondvarPlace.Permit (SemaphorePlace.Look patience)) (since_count c.own)
HasSeen (CondvarPlace.Permit (SemaphorePlace.Take seen to patience)) c hold = (latest_outcome (since_count c.own) ≡ Then.GoesOn) × IsNextOf (CondvarPlace.Permit (SemaphorePlace.Take seen to patience)) (since_count c.own)
HasSeen (CondvarPlace.CountOut signalled) c hold = IsNextOf (CondvarPlace.CountOut signalled) (since_count c.own)
HasSeen place c hold = Unit {0}

-- Where a step of a counted `Wait` leads: P is its next.

abbrev Reaches : {T : Type 0} → Bool → ℕ → (Act T → Then T → Type 0) → After T CondvarPlace → Type 0
Reaches {T} asks spins P (After.At place) = (act : Act T) (outcome : Then T) → Does place asks spins act outcome → P act outcome
Reaches asks spins P other = Unit {0}

-- a look, by whether it saw none, whether the call keeps on asking, and whether it has spins left
abbrev look_after : {T : Type 0} → Patience → ℕ → Bool → Bool → Bool → After T CondvarPlace
look_after patience v gone keep left =
    permitted (cond gone (within SemaphorePlace.Look (cond keep (cond left (After.At (record { spins = patience.spins + 1; keep = patience.keep })) (After.Waits patience 0)) (After.Ends Answer.Interrupted)))
    (After.At (SemaphorePlace.Take v (v - 1) patience)))

-- So it is kept of the call with one event more.

-- a step on the permits, of a call that asks so
record IsStepOf {T : Type 0} (asks : Bool) (own : List (Event T)) (act : Act T) : Type 0 where
  steps : is_step act ≡ true
  quiet : is_abort act ≡ false
  asking : keeps_asking (since_count own) ≡ asks
  apart : (outcome : Then T) (number : ℕ) → since_count (event number act outcome ∷ own) ≡ event number act outcome ∷ since_count own

-- Where a call begins.

begins_unseen : {T : Type 0} (call : Call T) (place : CondvarPlace) (hold : Option HoldKind) → AtCondvar place (record { call = call; own = [] }) hold → HasSeen {T = T} place (record { call = call; own = [] }) hold
begins_unseen call place hold h1 = grind (arith, nat_tests, eqb-true, eqb-false)

-- Where a step leads.

-- the places before and after the wait for a permit owe nothing
abbrev IsApart : CondvarPlace → Type 0
IsApart (CondvarPlace.Release place) = ⊥
IsApart (CondvarPlace.Permit place) = ⊥
IsApart (CondvarPlace.CountOut signalled) = ⊥
IsApart other = Unit {0}

-- a take leads on as a look does, where it failed

steps_seen :
    {T : Type 0} (place : CondvarPlace) (c : PendingCall T) (hold left : Option HoldKind) (memory : Word → ℕ) (number : ℕ) (next : CondvarPlace) → AtCondvar place c hold → HasSeen place c hold →
    place_after {T = T} (condvar_after place (value_told {T = T} (carried_out ((condvar_table {T = T}).intent place hold) memory))) ≡ Some next →
    HasSeen next (record { call = c.call; own = event number (step_at condvar_table place hold memory).act (step_at condvar_table place hold memory).outcome ∷ c.own }) left
steps_seen place c hold left memory number next h1 h2 h3 = grind (arith, nat_tests, eqb-true, eqb-false)

-- Where an answer leads: only a call that looks next has asked.

answers_seen :
    {T : Type 0} (place : CondvarPlace) (c : PendingCall T) (hold : Option HoldKind) (action : WaitAction) (number : ℕ) → AtCondvar place c hold → HasSeen place c hold → answer_fault (latest_outcome c.own) ≡ None →
    HasSeen {T = T} (condvar_answered place action) (record { call = c.call; own = event number (Act.Answered action) Then.GoesOn ∷ c.own }) hold
answers_seen place c hold action number h1 h2 h3 = grind (arith, nat_tests, eqb-true, eqb-false)

chooses_seen :
    {T : Type 0} (place : CondvarPlace) (c : PendingCall T) (hold : Option HoldKind) (choice : Option T) (number : ℕ) → AtCondvar place c hold → HasSeen place c hold → choose_fault (latest_outcome c.own) ≡ None →
    HasSeen {T = T} place (record { call = c.call; own = event number (Act.Chosen choice) Then.GoesOn ∷ c.own }) hold
chooses_seen place c hold choice number h1 h2 h3 = grind (arith, nat_tests, eqb-true, eqb-false)

abbrev IsReady : {T : Type 0} → CondvarPlace → PendingCall T → Option HoldKind → Type 0
IsReady place c hold = AtCondvar place c hold × HasSeen place c hold

ready_kept : {T : Type 0} → IsKept {T = T} condvar_table IsReady
ready_kept {T} =
    record {
      begins = λ call place hold is allowed. (condvar_kept.begins call place hold is allowed, begins_unseen {T = T} call place hold (condvar_kept.begins call place hold is allowed));
      steps = λ place c hold memory number next ready free is. (condvar_kept.steps place c hold memory number next ready.0 free is, steps_seen place c hold _ memory number next ready.0 ready.1 is);
      answers = λ place c hold action number ready waits. (condvar_kept.answers place c hold action number ready.0 waits, answers_seen place c hold action number ready.0 ready.1 waits);
      chooses = λ place c hold choice number ready stands. (condvar_kept.chooses place c hold choice number ready.0 stands, chooses_seen place c hold choice number ready.0 ready.1 stands);
    }

-- So each step is the next.

-- a `Wait` that is counted, by what it does and how it leaves the call, for a call that asks so

next_step :
    {T : Type 0} (place : CondvarPlace) (c : PendingCall T) (hold : Option HoldKind) (memory : Word → ℕ) → IsReady place c hold →
    CondvarStep {T = T} c.call c.own (step_at condvar_table place hold memory).act (step_at condvar_table place hold memory).outcome
next_step place c hold memory h1 = grind (arith, nat_tests, eqb-true, eqb-false)

pub each_steps : {T : Type 0} (z : Arithmetic T) (parties : ℕ) (past : List (Event T)) → IsPast z condvar_table parties past → StepsAs CondvarStep past
each_steps z parties past run = steps_as z condvar_table parties IsReady CondvarStep ready_kept next_step past run

-- A call that waits for nobody has fewer steps left at each place.

abbrev rest_at : CondvarPlace → Option ℕ
rest_at (CondvarPlace.Mutex place) = mutex_rest place
rest_at (CondvarPlace.Read wake) = Some 3
rest_at (CondvarPlace.Post wake amount) = Some 2
rest_at (CondvarPlace.Wake wake) = Some 1
rest_at other = None

begun_at : {T : Type 0} (call : Call T) (place : CondvarPlace) (steps : ℕ) → condvar_begins call ≡ Some place → condvar_most call ≡ Some steps → (left : ℕ) × (rest_at place ≡ Some left) × (left ≤ steps)
begun_at call place steps h1 h2 = grind (arith, nat_tests, eqb-true, eqb-false)

goes_at :
    (T : Type 0) (place next : CondvarPlace) (told : Option ℕ) (left : ℕ) → rest_at place ≡ Some left → place_after (condvar_after {T = T} place told) ≡ Some next → (fewer : ℕ) × (rest_at next ≡ Some fewer) × (fewer < left)
goes_at T place next told left h1 h2 = grind (arith, nat_tests, eqb-true, eqb-false)

some_at : (place : CondvarPlace) (left : ℕ) → rest_at place ≡ Some left → 0 < left
some_at place left h1 = grind (arith, nat_tests, eqb-true, eqb-false)

answered_at : (place : CondvarPlace) (action : WaitAction) → rest_at (condvar_answered place action) ≡ rest_at place
answered_at place action = grind (arith, nat_tests, eqb-true, eqb-false)

descends : {T : Type 0} → Descends {T = T} condvar_table condvar_most rest_at
descends {T} = record { begins = begun_at; goes = goes_at T; some = some_at; answered = answered_at; chosen = λ place choice. refl }

pub each_ends : {T : Type 0} (z : Arithmetic T) (parties : ℕ) (past : List (Event T)) → IsPast z condvar_table parties past → EndsWithin condvar_most past
each_ends z parties past run = ends_within condvar_table condvar_most rest_at descends z parties past run
