-- What a semaphore keeps at every prefix of every run: its permits, a cause for each refusal, and when a call asks its wait closure.
use Rattle.std.specs.Prelude.{◌≡◌, ℕ, ◌+◌, ◌-◌, ◌%◌, ◌^◌, ◌==◌, ◌&&◌, Bool, true, false, List, [], Option, Some, None, unwrap_or, MatchBool, if◌then◌else◌}
use Rattle.model_semaphore.specs.Names.{Word, Call, Act, Event, Wake, Answer, Then, PendingCall, holds_of, is_step, AtLastSight, HasAborted, spins_in, last_of, SpinCount, sight_at, whole_call, Waiting, WaitsAs, Keeps}
use Rattle.model_events.specs.NextStep.{StepsAs, refused_waiting, EndsWithin}
use Rattle.model_semaphore.specs.Table.{semaphore_table}
use Rattle.model_semaphore.specs.Permits.{permits, KeepsPermits}

abbrev pub permits_posted : {T : Type 0} → Call T → ℕ
permits_posted (Call.Post n) = n
permits_posted other = 0

-- the add of a `Post` gives its amount
abbrev pub semaphore_gives : {T : Type 0} → Act T → Option (PendingCall T) → ℕ
semaphore_gives (Act.Add Word.State old put) (Some c) = permits_posted c.call
semaphore_gives act pending = 0

abbrev pub semaphore_value : {T : Type 0} → ℕ → List (Event T) → ℕ
semaphore_value initial past = permits Word.State semaphore_gives initial past

-- `TryWait`: the value was 0 at its last sight. `Wait`: its own closure had answered Abort before its last sight, and the value was 0 at it.
abbrev pub SemaphoreCause : {T : Type 0} → ℕ → Call T → ℕ → List (Event T) → Type 0
SemaphoreCause initial Call.TryWait party events = AtLastSight Word.State (λ before. semaphore_value initial before ≡ 0) party events
SemaphoreCause initial Call.Wait party events = AtLastSight Word.State (λ before. HasAborted party before × (semaphore_value initial before ≡ 0)) party events
SemaphoreCause initial other party events = ⊥

-- a look: the value that a load or a failed exchange told
abbrev pub look_of : {T : Type 0} → Act T → Option ℕ
look_of (Act.Load word seen) = Some seen
look_of (Act.Exchange word from to found false) = Some found
look_of act = None

abbrev pub is_zero : Option ℕ → Bool
is_zero None = false
is_zero (Some v) = v == 0

-- a look that saw no permit
abbrev pub is_empty_look : {T : Type 0} → Act T → Bool
is_empty_look act = is_zero (look_of act)

-- the spins of a `Wait`; no other call spins, nor asks
abbrev pub wait_spins : {T : Type 0} → SpinCount T
wait_spins Call.Wait own = spins_in is_empty_look own
wait_spins other own = 0

-- how they wait
abbrev pub semaphore_waiting : {T : Type 0} → Waiting T
semaphore_waiting = record { spins = wait_spins; goes_on = wait_spins; refusing = sight_at Word.State; wait = whole_call }

-- What a call does next, by its own steps so far, and how it is left by what that tells.

-- what an act saw
abbrev pub seen_by : {T : Type 0} → Option (Act T) → Option ℕ
seen_by None = None
seen_by (Some act) = look_of act

-- what the call's latest step saw; 0 before the first
abbrev pub permits_seen : {T : Type 0} → List (Event T) → ℕ
permits_seen own = unwrap_or (seen_by (last_of is_step own)) 0

-- a load of the permits
abbrev pub is_load : {T : Type 0} → Act T → Bool
is_load (Act.Load Word.State seen) = true
is_load act = false

-- an exchange of this value for one permit less
abbrev pub is_take_from : {T : Type 0} → ℕ → Act T → Bool
is_take_from v (Act.Exchange Word.State from to found done) = (from == v) && (to == v - 1)
is_take_from v act = false

-- a load where the latest step saw no permit, else an exchange that takes one from the value seen
abbrev pub is_look_or_take : {T : Type 0} → ℕ → Act T → Bool
is_look_or_take v act = if v == 0 then is_load act else is_take_from v act

-- how a call that saw 0 is left
abbrev pub refused_as : {T : Type 0} → Call T → List (Event T) → Then T
refused_as Call.Wait own = refused_waiting own (spins_in is_empty_look own) 0
refused_as other own = Then.Answers Answer.Interrupted

-- how a call is left by what its step saw: nothing, where it took a permit
abbrev pub IsLeftBy : {T : Type 0} → Call T → List (Event T) → Option ℕ → Then T → Type 0
IsLeftBy call own None outcome = outcome ≡ Then.Answers Answer.Success
IsLeftBy call own (Some v) outcome = MatchBool (v == 0) (outcome ≡ refused_as call own) (outcome ≡ Then.GoesOn)

-- a load whose value is the answer
abbrev pub ReadsValue : {T : Type 0} → Act T → Then T → Type 0
ReadsValue (Act.Load Word.State v) outcome = outcome ≡ Then.Answers (Answer.Number v)
ReadsValue act outcome = ⊥

-- an add of so many permits, after which the call goes on
abbrev pub AddsPermits : {T : Type 0} → ℕ → Act T → Then T → Type 0
AddsPermits n (Act.Add Word.State old put) outcome = (put ≡ (old + n) % 2 ^ 64) × (outcome ≡ Then.GoesOn)
AddsPermits n act outcome = ⊥

-- a `Post` adds, then wakes one and is done
abbrev pub IsPostStep : {T : Type 0} → ℕ → Option (Act T) → Act T → Then T → Type 0
IsPostStep n None act outcome = AddsPermits n act outcome
IsPostStep n (Some before) act outcome = (act ≡ Act.Woke Wake.One) × (outcome ≡ Then.Answers Answer.Done)

-- a call that wants a permit looks where it saw none last, and else takes one from what it saw
abbrev pub WantsPermit : {T : Type 0} → Call T → List (Event T) → Act T → Then T → Type 0
WantsPermit call own act outcome = (is_look_or_take (permits_seen own) act ≡ true) × IsLeftBy call own (look_of act) outcome

-- the next step of each call; no other has one
abbrev pub SemaphoreStep : {T : Type 0} → Call T → List (Event T) → Act T → Then T → Type 0
SemaphoreStep Call.Value own act outcome = (last_of is_step own ≡ None) × ReadsValue act outcome
SemaphoreStep (Call.Post n) own act outcome = IsPostStep n (last_of is_step own) act outcome
SemaphoreStep Call.TryWait own act outcome = WantsPermit Call.TryWait own act outcome
SemaphoreStep Call.Wait own act outcome = WantsPermit Call.Wait own act outcome
SemaphoreStep other own act outcome = ⊥

-- how many steps a call makes that waits for nobody; a `TryWait` may see permits, and miss them, again and again
abbrev pub semaphore_most : {T : Type 0} → Call T → Option ℕ
semaphore_most Call.Value = Some 1
semaphore_most (Call.Post n) = Some 2
semaphore_most other = None

-- What a semaphore keeps beside what every object does.
pub record SemaphoreLaw {T : Type 0} (initial : ℕ) (past : List (Event T)) : Type 0 where
  -- nobody holds a semaphore
  pub unheld : holds_of (semaphore_table initial) past ≡ []
  -- no more permits are taken than given, and each value that is told is what was given less what was taken
  pub permits : KeepsPermits Word.State semaphore_gives initial past
  -- a `Wait` asks its closure after 10000 spins, which are looks that saw no permit, and tells it the value seen
  pub waits : WaitsAs semaphore_waiting past
  -- each step is the one that follows what its call saw last, and leaves it by what it tells
  pub steps : StepsAs SemaphoreStep past
  -- a call that waits for nobody makes so many steps at most, and answers with the last
  pub within : EndsWithin semaphore_most past

abbrev pub KeepsSemaphore : {T : Type 0} → ℕ → List (Event T) → Type 0
KeepsSemaphore initial past = Keeps (semaphore_table initial) (SemaphoreCause initial) (SemaphoreLaw initial) past
