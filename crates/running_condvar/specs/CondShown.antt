-- What contracts see of a condition variable and its pass, and what a call changes in a pass.
use Rattle.std.specs.Prelude.{◌≡◌, ◌<◌, ℕ, Bool, MatchBool, Option, Some, None}
use Rattle.running_condvar.specs.Names.{Bor, Mut, Shared, Once, FnOnceReturnsAt, WaitAction, Part, IsWhole, HasLooked, IsSamePass, part_of, sights_of, MayAnswerAbort, HasAsked, counts_of, parties_of, Parties, HasCalled, Call, Answer, HoldKind, mutex_model, HasMoved, WasRefused, Holds, granted, released, gave, IsPassOf, HasSeen, HasDone, SemPass, IsSemPass, IsEmpty, AskedForPermit, HasTaken, worth_of, HasPlayed, HasPlayedPost, initial_of}
use Rattle.running_passes.specs.declared.wait.WaitResult.{WaitResult}
use Rattle.running_passes.specs.declared.wait.WaitResult.TheVariants.{Success, Interrupted}
use Rattle.running_mutex.specs.MutexParties.{Unlocks}
use Rattle.running_condvar.specs.declared.CondPass.{CondPass}
use Rattle.running_condvar.specs.declared.ConditionVariable.{ConditionVariable}
use Rattle.running_condvar.specs.declared.CountedWait.{CountedWait}
use Rattle.running_condvar.specs.declared.CondResult.{CondResult}
use Rattle.running_condvar.specs.declared.Woken.{Woken}
use Rattle.running_condvar.specs.declared.Woken.TheVariants.{Signalled, Unsignalled}
use Rattle.running_mutex.specs.MutexShown.{MutexPass, IsLocked, holds_of}
use Rattle.atomic_table.specs.Seated.{TableId}
use Rattle.running_semaphore.specs.SemaphoreShown.{IsItsWord}
use Rattle.running_condvar.specs.Cond.{WaitsPass, one_more}
use Rattle.running_condvar.specs.CondParties.{Plays}

-- the two passes inside: that of the count, and that of the permits
abbrev pub waits_in : CondPass → WaitsPass
waits_in p = p.waits

abbrev pub permits_in : CondPass → SemPass
permits_in p = p.permits

abbrev pub IsCondPass : {A S : Type 0} → ConditionVariable A S → CondPass → Type 0
IsCondPass c p = IsPassOf c.number_of_waiters (waits_in p) × IsSemPass c.semaphore (permits_in p)

-- this is the word of its permits, by its object and which of that object's words it is
abbrev pub IsPermitsWord : {A S : Type 0} → ConditionVariable A S → TableId → ℕ → Type 0
IsPermitsWord c = IsItsWord c.semaphore

-- so many were seen to wait, in one look; so many permits were given; and nothing else changed
pub record HasGiven (permits waiting : ℕ) (p q : CondPass) : Type 0 where
  pub saw : HasSeen waiting (waits_in p) (waits_in q)
  pub gave : HasDone (gave permits) (permits_in p) (permits_in q)

-- of the model of the count the pass has made this one call, as a party that is new, which was answered so
abbrev pub HasPlayedCount : Call ℕ → Answer ℕ → CondPass → CondPass → Type 0
HasPlayedCount call answer p q = Plays call answer (parties_of (waits_in p)) (parties_of (waits_in q))

-- It was seen once how many wait, which is what the count answered; as many permits were given as are for them, by one `Post`; and nothing else
-- changed.
pub record HasNotified (for : ℕ → ℕ) (p q : CondPass) : Type 0 where
  pub waiting : ℕ
  pub asked : HasPlayedCount Call.Value (Answer.Number waiting) p q
  pub given : HasGiven (for waiting) waiting p q
  pub posted : HasPlayedPost 0 (for waiting) (permits_in p) (permits_in q)

-- It may have notified and waited. A helper, a loop and a closure carry this one fact.
pub record HasStayed (p q : CondPass) : Type 0 where
  pub waits : IsSamePass (waits_in p) (waits_in q)
  pub permits : IsSamePass (permits_in p) (permits_in q)
  pub part_of_waits : part_of (waits_in q) ≡ part_of (waits_in p)
  pub part_of_permits : part_of (permits_in q) ≡ part_of (permits_in p)

module _ {H : Type 0} where
  -- the hold that a wait came back with
  abbrev pub held_by : Woken H → H
  held_by (Signalled h) = h
  held_by (Unsignalled h) = h

  -- P holds where the wait has the mutex again, and took a permit
  abbrev pub IfSignalled : WaitResult (Woken H) → Type 0 → Type 0
  IfSignalled (Success (Signalled h)) P = P
  IfSignalled (Success (Unsignalled h)) P = Unit {0}
  IfSignalled Interrupted P = Unit {0}

  -- P holds where it has the mutex again, and took none
  abbrev pub IfUnsignalled : WaitResult (Woken H) → Type 0 → Type 0
  IfUnsignalled (Success (Signalled h)) P = Unit {0}
  IfUnsignalled (Success (Unsignalled h)) P = P
  IfUnsignalled Interrupted P = Unit {0}

  -- both forms of answer tell the same
  abbrev pub woken_of : CondResult H → WaitResult (Woken H)
  woken_of (CondResult.Success h) = Success (Signalled h)
  woken_of (CondResult.Interrupted (Some h)) = Success (Unsignalled h)
  woken_of (CondResult.Interrupted None) = Interrupted

-- one wait more was counted in and out again, by one `Wait` of the count, and nothing else changed
pub record HasWaited (p q : CondPass) : Type 0 where
  pub counted : HasDone one_more (waits_in p) (waits_in q)
  pub played : HasPlayedCount Call.Wait Answer.Done p q

-- one `Wait` of a semaphore of this initial value took a permit
pub record TakesOne (initial : ℕ) (p q : SemPass) : Type 0 where
  pub taken : HasTaken p q
  pub played : HasPlayed initial Call.Wait Answer.Success p q

-- One took none: none was seen in 10002 looks or more, and the wait closure may answer Abort, told 0. Where no other pass is left, the looks are
-- counted by the closure's answers.
pub record TakesNone {F W : Type 0} (g : Shared F (Bor W × (Bor ℕ × Unit {0})) WaitAction) (wait : F) (initial : ℕ) (p q : SemPass) : Type 0 where
  pub refused : WasRefused IsEmpty 10002 p q
  pub aborted : MayAnswerAbort g wait IsEmpty
  pub asked : IsWhole (part_of p) → HasAsked g wait IsEmpty 10001 p q
  pub played : HasPlayed initial Call.Wait Answer.Interrupted p q

-- so the permits of a condition variable
abbrev pub HasTakenOne : {A S : Type 0} → ConditionVariable A S → CondPass → CondPass → Type 0
HasTakenOne c p q = TakesOne (initial_of c.semaphore) (permits_in p) (permits_in q)

abbrev pub HasNotTaken : {A S F W : Type 0} → ConditionVariable A S → Shared F (Bor W × (Bor ℕ × Unit {0})) WaitAction → F → CondPass → CondPass → Type 0
HasNotTaken c g wait p q = TakesNone g wait (initial_of c.semaphore) (permits_in p) (permits_in q)

-- How a counted wait slept: whether a permit was taken; and what it asked its wait closure, of this word, from wait on, and nothing beside.
pub record HasSlept {F X : Type 0} (g : Mut F (Bor X × (Bor ℕ × Unit {0})) WaitAction) (shown : X) (wait after : F) (initial : ℕ) (took : Bool) (p q : SemPass) : Type 0 where
  pub came : MatchBool took (TakesOne initial p q) (WasRefused IsEmpty 10002 p q × HasPlayed initial Call.Wait Answer.Interrupted p q)
  pub worth : IsWhole (part_of p) → MatchBool took (0 < worth_of p) (worth_of p ≡ 0)
  pub asked : AskedForPermit g shown wait after took p q

-- its closure is there, and may be called
abbrev pub IsAwake : {F : Type 0} → (F → Type 0) → Option F → Type 0
IsAwake may (Some wait) = may wait
IsAwake may None = ⊥

-- so, where its closure lay
pub record SleepsBy {F X : Type 0} (g : Mut F (Bor X × (Bor ℕ × Unit {0})) WaitAction) (may : F → Type 0) (shown : X) (initial : ℕ) (took : Bool) (before now : Option F) (p q : SemPass) : Type 0 where
  pub wait : F
  pub after : F
  pub was : before ≡ Some wait
  pub left : now ≡ Some after
  pub again : may after
  pub slept : HasSlept g shown wait after initial took p q

-- the hold, which was on, went off, and is on again by one more grant
pub record Regains (part : Part) (t u : Holds) (last : ℕ) : Type 0 where
  pub on : t.holds ≡ 1
  pub again : u ≡ granted (released t)

-- so, and nothing else changed but what was seen on the way
abbrev pub HasRegained : MutexPass → MutexPass → Type 0
HasRegained = HasMoved Regains

-- The hold, which was on, is off. The mutex was seen locked at last, after 10001 looks and those that the call made once it had asked.
pub record HasLeft {F W : Type 0} (g : Shared F (Bor W × (Bor ℕ × Unit {0})) WaitAction) (wait : F) (p q : MutexPass) : Type 0 where
  pub same : IsSamePass p q
  pub on : holds_of p ≡ 1
  pub off : counts_of q ≡ released (counts_of p)
  pub part : part_of q ≡ part_of p
  pub looked : HasLooked IsLocked 10002 (sights_of p) (sights_of q)
  pub asked : HasAsked g wait IsLocked 10001 p q

-- by what the closure that lets a lock go promises of its calls, one that was handed a wait that is counted in gave this
pub record LeavesCounted {F Y : Type 0} (g : Once F (Bor CountedWait × Unit {0}) Y) (leave : F) (left : Y) : Type 0 where
  pub counted : CountedWait
  pub says : FnOnceReturnsAt g leave counted left

-- the mutex's pass has made an `Unlock`, as the party that had the mutex, and then one `Lock`, as a party that is new, which was answered so; and no other call
abbrev pub HasPlayedAgain : Answer ℕ → Option HoldKind → MutexPass → MutexPass → Type 0
HasPlayedAgain answer hold p q = (between : Parties ℕ) × Unlocks (parties_of p) between × HasCalled mutex_model Call.Lock answer hold between (parties_of q)
