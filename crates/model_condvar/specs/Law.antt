-- What a condition variable keeps at every prefix of every run: its waiter count, its permits, what each answer of a `Wait` means, a cause for each
-- refusal, and how often a call tries.
use Rattle.std.specs.Prelude.{◌≡◌, ℕ, zero, suc, min, ◌+◌, ◌-◌, ◌%◌, ◌^◌, ◌==◌, ◌&&◌, nat_lt, ◌⊎◌, Bool, true, false, List, [], ◌∷◌, Option, Some, None, unwrap_or, MatchBool, MatchOption, if◌then◌else◌}
use Rattle.model_condvar.specs.Names.{Word, Wake, Call, Act, Answer, Then, Event, HoldKind, PendingCall, call_of, hold_of, is_failure, is_step, sight_of, AtLastSight, keeps_asking, spins_in, SpinCount, but_last_try, Refusing, WaitEvents, Waiting, WaitsAs, StepsAs, refused_waiting, EndsWithin, step_before, Loads, Exchanges, IsLocked, Keeps, LockCause, HasTriedAll, answer_of, acts_of, IsLockAnswer, IsExactGrant, MutexStep, mutex_most, permits, permits_taken, KeepsPermits, is_empty_look}
use Rattle.model_mutex.specs.Law as mutex
use Rattle.model_condvar.specs.Table.{condvar_table}
use Rattle.model_condvar.specs.Waiters.{counts_in, since_count, CountsWaiters}

-- Permits.

-- the closure that a notify calls
abbrev pub wake_for : {T : Type 0} → Call T → Option Wake
wake_for Call.NotifyOne = Some Wake.One
wake_for Call.NotifyAll = Some Wake.All
wake_for call = None

-- the waiter count that a call read last
abbrev pub count_read : {T : Type 0} → List (Event T) → ℕ
count_read [] = 0
count_read (e ∷ own) = unwrap_or (sight_of Word.Waiters e.act) (count_read own)

-- the permits that it gives, where so many wait
abbrev pub amount_for : Option Wake → ℕ → ℕ
amount_for None waiters = 0
amount_for (Some Wake.One) waiters = min 1 waiters
amount_for (Some Wake.All) waiters = waiters

-- the add of a `NotifyOne` gives the lesser of 1 and the count that it read, that of a `NotifyAll` this count
abbrev pub condvar_gives : {T : Type 0} → Act T → Option (PendingCall T) → ℕ
condvar_gives (Act.Add Word.Value old put) (Some c) = amount_for (wake_for c.call) (count_read c.own)
condvar_gives act pending = 0

abbrev pub condvar_value : {T : Type 0} → List (Event T) → ℕ
condvar_value past = permits Word.Value condvar_gives 0 past

-- the permits that a call has taken; a `Wait` is signalled if it has taken one
abbrev pub takes_in : {T : Type 0} → List (Event T) → ℕ
takes_in own = permits_taken Word.Value own

-- Why a call is refused.

-- the wait closure of the party's call has answered Abort since the call last changed the waiter count
abbrev pub HasAbortedSince : {T : Type 0} → ℕ → List (Event T) → Type 0
HasAbortedSince party past = MatchOption (call_of party past) ⊥ (λ c. keeps_asking (since_count c.own) ≡ false)

-- its wait closure had answered Abort before its last sight of the permits, and none was there to take
abbrev pub FoundNoPermit : {T : Type 0} → ℕ → List (Event T) → Type 0
FoundNoPermit party events = AtLastSight Word.Value (λ before. HasAbortedSince party before × (condvar_value before ≡ 0)) party events

-- after it had counted itself out, its wait closure had answered Abort before its last sight of the mutex, and a hold stood at it
abbrev pub FoundMutexHeld : {T : Type 0} → ℕ → List (Event T) → Type 0
FoundMutexHeld party events = AtLastSight Word.State (λ before. HasAbortedSince party before × IsLocked condvar_table before) party events

abbrev pub IsSignalled : {T : Type 0} → ℕ → List (Event T) → Type 0
IsSignalled party past = MatchOption (call_of party past) ⊥ (λ c. takes_in c.own ≡ 1)

-- `InterruptedHeld`: it found no permit. `Interrupted`: it found the mutex held, and it was signalled or found no permit before that.
abbrev pub WaitCause : {T : Type 0} → Then T → ℕ → Event T → List (Event T) → Type 0
WaitCause (Then.Answers Answer.InterruptedHeld) party e past = FoundNoPermit party (e ∷ past)
WaitCause (Then.Answers Answer.Interrupted) party e past = FoundMutexHeld party (e ∷ past) × (IsSignalled party past ⊎ FoundNoPermit party (e ∷ past))
WaitCause other party e past = ⊥

-- `Lock` and `TryLock`: as of a mutex
abbrev pub CondvarCause : {T : Type 0} → Call T → ℕ → List (Event T) → Type 0
CondvarCause Call.Wait party [] = ⊥
CondvarCause Call.Wait party (e ∷ past) = WaitCause e.then party e past
CondvarCause call party events = LockCause condvar_table call party events

-- What a call answers.

-- a call of the wake closure for one
abbrev pub is_wake_one : {T : Type 0} → Act T → Bool
is_wake_one (Act.Woke Wake.One) = true
is_wake_one act = false

-- How a `Wait` ends that has taken so many permits, and whose party then has this hold: `Success` for a signalled call with the write hold,
-- `InterruptedHeld` for an unsignalled one with it, `Interrupted` without a hold.
abbrev pub IsWaitAnswer : {T : Type 0} → ℕ → Option HoldKind → Answer T → Type 0
IsWaitAnswer takes None answer = answer ≡ Answer.Interrupted
IsWaitAnswer takes (Some HoldKind.Read) answer = ⊥
IsWaitAnswer zero (Some HoldKind.Write) answer = answer ≡ Answer.InterruptedHeld
IsWaitAnswer (suc takes) (Some HoldKind.Write) answer = answer ≡ Answer.Success

-- a load of the waiter count
abbrev pub is_read : {T : Type 0} → Act T → Bool
is_read (Act.Load Word.Waiters seen) = true
is_read act = false

-- an add to the permits
abbrev pub is_post : {T : Type 0} → Act T → Bool
is_post (Act.Add Word.Value old put) = true
is_post act = false

-- How a call ends with these own events and acts, newest first, by the hold that its party then has: of the mutex's calls as at a mutex, a notify with `Done`.
abbrev pub IsAnswer : {T : Type 0} → Call T → List (Event T) → List (Act T) → Option HoldKind → Answer T → Type 0
IsAnswer Call.Wait own made hold answer = IsWaitAnswer (takes_in own) hold answer
IsAnswer Call.NotifyOne own made hold answer = answer ≡ Answer.Done
IsAnswer Call.NotifyAll own made hold answer = answer ≡ Answer.Done
IsAnswer call own made hold answer = IsLockAnswer call made hold answer

-- so does the latest event, where it answers
abbrev pub AnswersByHold : {T : Type 0} → List (Event T) → Type 0
AnswersByHold [] = Unit {0}
AnswersByHold (e ∷ past) =
    MatchOption (answer_of e.then) (Unit {0})
    (λ answer. MatchOption (call_of e.party past) ⊥ (λ c. IsAnswer c.call c.own (acts_of (e ∷ c.own)) (hold_of condvar_table e.party (e ∷ past)) answer))

-- How often a call tries.

-- How often it has spun. `Wait`: looks that saw no permit, while it is counted; exchanges that failed, since it has counted itself out. `Lock`:
-- exchanges that failed. No other call asks.
abbrev pub spins_of : {T : Type 0} → SpinCount T
spins_of Call.Wait own = if counts_in own == 2 then spins_in is_failure (since_count own) else spins_in is_empty_look (since_count own)
spins_of call own = mutex.lock_spins call own

-- What it does in vain and then goes on by itself. `Wait`: looks that saw no permit, but the last of one that gives up, after which it counts itself
-- out; since then each step. A call of the mutex: each step. A notify waits for nothing.
abbrev pub spins_on : {T : Type 0} → SpinCount T
spins_on Call.Wait own =
    if counts_in own == 2
    then spins_in is_step (since_count own)
    else but_last_try (since_count own) (spins_in is_empty_look (since_count own))
spins_on Call.NotifyOne own = 0
spins_on Call.NotifyAll own = 0
spins_on call own = mutex.steps_on call own

-- what refused it: of a `Wait` that is counted the permits that its act saw, else what it saw of the mutex
abbrev pub refused_by : {T : Type 0} → Refusing T
refused_by Call.Wait own act = if counts_in own == 2 then sight_of Word.State act else sight_of Word.Value act
refused_by call own act = sight_of Word.State act

-- a `Wait` waits for a permit, and once it has counted itself out it waits anew, for the mutex
abbrev pub wait_of : {T : Type 0} → WaitEvents T
wait_of Call.Wait own = since_count own
wait_of call own = own

-- how they wait
abbrev pub condvar_waiting : {T : Type 0} → Waiting T
condvar_waiting = record { spins = spins_of; goes_on = spins_on; refusing = refused_by; wait = wait_of }

-- a call that ends without the mutex
abbrev pub gives_up : {T : Type 0} → Then T → Bool
gives_up (Then.Answers Answer.Interrupted) = true
gives_up other = false

-- a `Wait` has made as many exchanges for the mutex since it has counted itself out as a `Lock` that gives up
abbrev pub HasTried : {T : Type 0} → Call T → List (Event T) → Type 0
HasTried Call.Wait own = HasTriedAll (since_count own)
HasTried call own = mutex.HasTried call own

abbrev pub GivesUpAfterTrying : {T : Type 0} → List (Event T) → Type 0
GivesUpAfterTrying [] = Unit {0}
GivesUpAfterTrying (e ∷ past) = MatchBool (gives_up e.then) (MatchOption (call_of e.party past) ⊥ (λ c. HasTried c.call (e ∷ c.own))) (Unit {0})

-- What a call does next, by its own steps so far, and how it is left by what that tells.

-- an add to a word, after which the call goes on
abbrev pub Adds : {T : Type 0} → Word → ℕ → Act T → Then T → Type 0
Adds word more (Act.Add w old put) outcome = (w ≡ word) × (put ≡ (old + more) % 2 ^ 64) × (outcome ≡ Then.GoesOn)
Adds word more act outcome = ⊥

abbrev pub goes_on_anyway : {T : Type 0} → ℕ → Then T
goes_on_anyway v = Then.GoesOn

-- a notify reads the waiter count, posts as many permits as that tells, and wakes
abbrev pub NotifyNext : {T : Type 0} → Wake → List (Act T) → Act T → Then T → Type 0
NotifyNext wake [] act outcome = Loads Word.Waiters goes_on_anyway act outcome
NotifyNext wake (Act.Load word waiters ∷ before) act outcome = Adds Word.Value (amount_for (Some wake) waiters) act outcome
NotifyNext wake (Act.Add word old put ∷ before) act outcome = (act ≡ Act.Woke wake) × (outcome ≡ Then.Answers Answer.Done)
NotifyNext wake other act outcome = ⊥

-- how a look at the permits leaves a `Wait`: where none is there it spins, stands, told 0, or goes on to count itself out; else it goes on to take one
abbrev pub left_waiting : {T : Type 0} → Bool → ℕ → ℕ → Then T
left_waiting asks spins v = if (v == 0 && asks) then (if nat_lt spins 10000 then Then.GoesOn else Then.Waits 0) else Then.GoesOn

abbrev pub LooksForPermit : {T : Type 0} → Bool → ℕ → Act T → Then T → Type 0
LooksForPermit asks spins act outcome = Loads Word.Value (left_waiting asks spins) act outcome

-- it subtracts itself from the waiter count
abbrev pub CountsOut : {T : Type 0} → Act T → Then T → Type 0
CountsOut act outcome = Adds Word.Waiters (2 ^ 64 - 1) act outcome

-- after a look: where it saw a permit, an exchange of what it saw for one less; where it saw none it looks again, or, once its closure has answered Abort, counts itself out
abbrev pub HasLookedAt : {T : Type 0} → Bool → ℕ → ℕ → Act T → Then T → Type 0
HasLookedAt asks spins v act outcome =
    MatchBool (v == 0) (MatchBool asks (LooksForPermit asks spins act outcome) (CountsOut act outcome)) (Exchanges Word.Value v (v - 1) Then.GoesOn (left_waiting asks spins) act outcome)

-- What follows the latest step of a `Wait` that has added itself: its unlock, and so its wake of one; that wake, or an answer of its closure, and so a look; a look; an
-- exchange that took a permit, and so that it subtracts itself.
abbrev pub CountedStep : {T : Type 0} → Bool → ℕ → Option (Act T) → Act T → Then T → Type 0
CountedStep asks spins None act outcome = LooksForPermit asks spins act outcome
CountedStep asks spins (Some (Act.Store word put)) act outcome = (act ≡ Act.Woke Wake.One) × (outcome ≡ Then.GoesOn)
CountedStep asks spins (Some (Act.Woke wake)) act outcome = LooksForPermit asks spins act outcome
CountedStep asks spins (Some (Act.Load word v)) act outcome = HasLookedAt asks spins v act outcome
CountedStep asks spins (Some (Act.Exchange word from to found true)) act outcome = CountsOut act outcome
CountedStep asks spins (Some (Act.Exchange word from to found false)) act outcome = HasLookedAt asks spins found act outcome
CountedStep asks spins (Some other) act outcome = ⊥

-- first it unlocks
abbrev pub CountedNext : {T : Type 0} → Bool → ℕ → List (Event T) → Act T → Then T → Type 0
CountedNext asks spins [] act outcome = (act ≡ Act.Store Word.State 0) × (outcome ≡ Then.GoesOn)
CountedNext asks spins (e ∷ since) act outcome = CountedStep asks spins (step_before (e ∷ since)) act outcome

-- the answer of a `Wait` that has the mutex again, by the permits that it has taken
abbrev pub woken_with : {T : Type 0} → ℕ → Answer T
woken_with takes = if takes == 0 then Answer.InterruptedHeld else Answer.Success

-- once it has subtracted itself it makes the exchange of a `Lock`
abbrev pub LocksAgain : {T : Type 0} → ℕ → List (Event T) → Act T → Then T → Type 0
LocksAgain takes since act outcome = Exchanges Word.State 0 1 (Then.Answers (woken_with takes)) (λ found. refused_waiting since (spins_in is_failure since) 1) act outcome

-- by how often it has changed the waiter count, and by its events since
abbrev pub WaitNext : {T : Type 0} → ℕ → ℕ → List (Event T) → Act T → Then T → Type 0
WaitNext zero takes since act outcome = Adds Word.Waiters 1 act outcome
WaitNext (suc zero) takes since act outcome = CountedNext (keeps_asking since) (spins_in is_empty_look since) since act outcome
WaitNext (suc (suc zero)) takes since act outcome = LocksAgain takes since act outcome
WaitNext more takes since act outcome = ⊥

-- the next step of each call; of the mutex's calls, as of a mutex alone
abbrev pub CondvarStep : {T : Type 0} → Call T → List (Event T) → Act T → Then T → Type 0
CondvarStep Call.Wait own act outcome = WaitNext (counts_in own) (takes_in own) (since_count own) act outcome
CondvarStep Call.NotifyOne own act outcome = NotifyNext Wake.One (acts_of own) act outcome
CondvarStep Call.NotifyAll own act outcome = NotifyNext Wake.All (acts_of own) act outcome
CondvarStep call own act outcome = MutexStep call own act outcome

-- how many steps a call makes that waits for nobody
abbrev pub condvar_most : {T : Type 0} → Call T → Option ℕ
condvar_most Call.NotifyOne = Some 3
condvar_most Call.NotifyAll = Some 3
condvar_most call = mutex_most call

-- What a condition variable keeps beside what every object does.
pub record CondvarLaw {T : Type 0} (past : List (Event T)) : Type 0 where
  -- the waiter count is that of the `Wait` calls between their add and their subtraction
  pub waiters : CountsWaiters past
  -- no more permits are taken than notifies have given, and each value that is told is what was given less what was taken
  pub permits : KeepsPermits Word.Value condvar_gives 0 past
  -- a `Wait` answers `Success` exactly where it was signalled and has the mutex, `InterruptedHeld` unsignalled with it, `Interrupted` without it; a call of the mutex as
  -- at a mutex, a notify with `Done`
  pub answers : AnswersByHold past
  -- `TryLock` is granted exactly where nobody holds the mutex
  pub exact : IsExactGrant condvar_table past
  -- a `Wait` or a `Lock` asks its closure after 10000 spins, and tells it the permits or the mutex's word, whichever refused it last
  pub waits : WaitsAs condvar_waiting past
  -- and each call that ends without the mutex has tried so often
  pub tries : GivesUpAfterTrying past
  -- each step is the one that follows its call's own, and leaves it by what it tells
  pub steps : StepsAs CondvarStep past
  -- a call that waits for nobody makes so many steps at most, and answers with the last
  pub within : EndsWithin condvar_most past

abbrev pub KeepsCondvar : {T : Type 0} → List (Event T) → Type 0
KeepsCondvar past = Keeps condvar_table CondvarCause CondvarLaw past
