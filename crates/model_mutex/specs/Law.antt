-- What a mutex keeps at every prefix of every run: one holder, what each answer means, a cause for each refusal, how often a call tries, and when it
-- asks its wait closure.
use Rattle.std.specs.Prelude.{◌≡◌, ℕ, ◌+◌, ◌==◌, ◌&&◌, ◌↔◌, Bool, true, false, List, [], ◌∷◌, Option, Some, None, MatchBool, MatchOption}
use Rattle.model_mutex.specs.Names.{Word, Wake, Call, Act, Answer, Then, Event, HoldKind, Table, call_of, holds_of, hold_of, is_failure, failures_in, is_step, is_sight, AtLastSight, HasAborted, spins_in, stands_in, exchanges_in, SpinCount, sight_at, whole_call, Waiting, WaitsAs, IsLocked, is_refusal, Keeps}
use Rattle.model_events.specs.NextStep.{StepsAs, refused_waiting, EndsWithin}
use Rattle.model_mutex.specs.Table.{mutex_table}

-- `TryLock`: a hold stood at its last sight. `Lock`: its own closure had answered Abort before its last sight, and a hold stood at it.
-- So it is of the mutex inside another object too.
abbrev pub LockCause : {T P : Type 0} → Table T P → Call T → ℕ → List (Event T) → Type 0
LockCause t Call.TryLock party events = AtLastSight Word.State (IsLocked t) party events
LockCause t Call.Lock party events = AtLastSight Word.State (λ before. HasAborted party before × IsLocked t before) party events
LockCause t other party events = ⊥

abbrev pub MutexCause : {T : Type 0} → Call T → ℕ → List (Event T) → Type 0
MutexCause call party events = LockCause mutex_table call party events

-- 10001 exchanges and one more for each time that the call stood, and all have failed
abbrev pub HasTriedAll : {T : Type 0} → List (Event T) → Type 0
HasTriedAll own = (exchanges_in own ≡ 10001 + stands_in own) × (failures_in own ≡ exchanges_in own)

-- so many has a `Lock` made that gives up
abbrev pub HasTried : {T : Type 0} → Call T → List (Event T) → Type 0
HasTried Call.Lock own = HasTriedAll own
HasTried other own = Unit {0}

abbrev pub GivesUpAfterTrying : {T : Type 0} → List (Event T) → Type 0
GivesUpAfterTrying [] = Unit {0}
GivesUpAfterTrying (e ∷ past) = MatchBool (is_refusal e.then) (MatchOption (call_of e.party past) ⊥ (λ c. HasTried c.call (e ∷ c.own))) (Unit {0})

-- Exact: the event in which a `TryLock` sees the word grants the mutex exactly where there was no hold before it.
abbrev pub IsExactGrant : {T P : Type 0} → Table T P → List (Event T) → Type 0
IsExactGrant t [] = Unit {0}
IsExactGrant t (e ∷ past) =
    MatchOption (call_of e.party past) (Unit {0})
    (λ c. c.call ≡ Call.TryLock → is_sight Word.State e.act ≡ true → ((e.then ≡ Then.Answers Answer.Success) ↔ (holds_of t past ≡ [])))

-- What a call answers.

abbrev pub answer_of : {T : Type 0} → Then T → Option (Answer T)
answer_of (Then.Answers answer) = Some answer
answer_of other = None

-- the acts of these events
abbrev pub acts_of : {T : Type 0} → List (Event T) → List (Act T)
acts_of [] = []
acts_of (e ∷ own) = e.act ∷ acts_of own

-- How a call ends that has made these acts, newest first, and whose party then has this hold. An `Unlock` has stored 0 and then woken one, and made no other
-- act: `Done`, and the hold is gone. A locking call answers `Success` exactly where it has the write hold.
abbrev pub IsLockAnswer : {T : Type 0} → Call T → List (Act T) → Option HoldKind → Answer T → Type 0
IsLockAnswer Call.Unlock made hold answer = (answer ≡ Answer.Done) × (made ≡ Act.Woke Wake.One ∷ Act.Store Word.State 0 ∷ []) × (hold ≡ None)
IsLockAnswer call made (Some HoldKind.Write) answer = answer ≡ Answer.Success
IsLockAnswer call made (Some HoldKind.Read) answer = ⊥
IsLockAnswer call made None answer = answer ≡ Answer.Interrupted

-- so does the latest event, where it answers
abbrev pub AnswersByHold : {T P : Type 0} → Table T P → List (Event T) → Type 0
AnswersByHold t [] = Unit {0}
AnswersByHold t (e ∷ past) =
    MatchOption (answer_of e.then) (Unit {0})
    (λ answer. MatchOption (call_of e.party past) ⊥ (λ c. IsLockAnswer c.call (acts_of (e ∷ c.own)) (hold_of t e.party (e ∷ past)) answer))

-- When a call asks its wait closure.

-- the spins of a `Lock` are its exchanges that failed; no other call asks
abbrev pub lock_spins : {T : Type 0} → SpinCount T
lock_spins Call.Lock own = spins_in is_failure own
lock_spins other own = 0

-- the steps of any kind after which a call went on by itself
abbrev pub steps_on : {T : Type 0} → SpinCount T
steps_on call own = spins_in is_step own

-- how they wait
abbrev pub mutex_waiting : {T : Type 0} → Waiting T
mutex_waiting = record { spins = lock_spins; goes_on = steps_on; refusing = sight_at Word.State; wait = whole_call }

-- What a call does next, by its own steps so far, and how it is left by what that tells.

-- the exchange that takes the mutex
abbrev pub is_lock_try : {T : Type 0} → Act T → Bool
is_lock_try (Act.Exchange Word.State from to found done) = (from == 0) && (to == 1)
is_lock_try act = false

-- how a call is left whose exchange failed: a `TryLock` gives up
abbrev pub refused_as : {T : Type 0} → Call T → List (Event T) → Then T
refused_as Call.Lock own = refused_waiting own (spins_in is_failure own) 1
refused_as other own = Then.Answers Answer.Interrupted

-- how an exchange leaves its call
abbrev pub IsLeftBy : {T : Type 0} → Call T → List (Event T) → Act T → Then T → Type 0
IsLeftBy call own act outcome = MatchBool (is_failure act) (outcome ≡ refused_as call own) (outcome ≡ Then.Answers Answer.Success)

-- an `Unlock` stores 0, then wakes one and is done
abbrev pub IsUnlockStep : {T : Type 0} → List (Act T) → Act T → Then T → Type 0
IsUnlockStep [] act outcome = (act ≡ Act.Store Word.State 0) × (outcome ≡ Then.GoesOn)
IsUnlockStep (before ∷ others) act outcome = (act ≡ Act.Woke Wake.One) × (outcome ≡ Then.Answers Answer.Done)

-- the next step of each call; no other has one
abbrev pub MutexStep : {T : Type 0} → Call T → List (Event T) → Act T → Then T → Type 0
MutexStep Call.Unlock own act outcome = IsUnlockStep (acts_of own) act outcome
MutexStep Call.TryLock own act outcome = (own ≡ []) × (is_lock_try act ≡ true) × IsLeftBy Call.TryLock own act outcome
MutexStep Call.Lock own act outcome = (is_lock_try act ≡ true) × IsLeftBy Call.Lock own act outcome
MutexStep other own act outcome = ⊥

-- how many steps a call makes that waits for nobody
abbrev pub mutex_most : {T : Type 0} → Call T → Option ℕ
mutex_most Call.TryLock = Some 1
mutex_most Call.Unlock = Some 2
mutex_most other = None

-- What a mutex keeps beside what every object does.
pub record MutexLaw {T : Type 0} (past : List (Event T)) : Type 0 where
  -- `TryLock` is granted exactly where nobody holds the mutex
  pub exact : IsExactGrant mutex_table past
  -- a locking call answers `Success` exactly where it has the hold, and an `Unlock` has stored 0 once and then woken one, and has none
  pub answers : AnswersByHold mutex_table past
  -- a `Lock` asks its closure after 10000 spins, which are exchanges that failed, and tells it the value found
  pub waits : WaitsAs mutex_waiting past
  -- and each `Lock` that gives up has tried so often
  pub tries : GivesUpAfterTrying past
  -- each step is the one that follows its call's own, and leaves it by what it tells
  pub steps : StepsAs MutexStep past
  -- a call that waits for nobody makes so many steps at most, and answers with the last
  pub within : EndsWithin mutex_most past

abbrev pub KeepsMutex : {T : Type 0} → List (Event T) → Type 0
KeepsMutex past = Keeps mutex_table MutexCause MutexLaw past
