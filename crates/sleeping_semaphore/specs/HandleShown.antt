-- What contracts see of a handle: the semaphore that it is of, and what a call changes in its pass.
use Rattle.std.specs.Prelude.{◌≡◌, ℕ}
use Rattle.std.specs.Borrow.{GName}
use Rattle.model_events.specs.declared.event.Call.TheVariants as calls
use Rattle.model_events.specs.declared.event.Answer.TheVariants as answers
use Rattle.running_model.specs.Counts.{WasRefused, HasDone}
use Rattle.running_model.specs.declared.wait.OwnWords.{OwnWords}
use Rattle.running_semaphore.specs.SemaphoreSteps.{gave}
use Rattle.running_semaphore.specs.SemaphoreShown as passes
use Rattle.running_semaphore.specs.SemaphoreShown.{SemPass}
use Rattle.running_passes.specs.declared.part.Part.{Part}
use Rattle.running_passes.specs.Passes.{part_of}
use Rattle.running_semaphore.specs.declared.Semaphore.{Semaphore}
use Rattle.sleeping_semaphore.specs.declared.SleepingSemaphore.{SleepingSemaphore}
use Rattle.sleeping_semaphore.specs.declared.SemaphoreHandle.{SemaphoreHandle}
use Rattle.sleeping_semaphore.specs.declared.Permit.{Permit}

-- of a semaphore that was made with so many permits

-- a permit was taken
pub record HasTaken (initial : ℕ) (p q : SemPass) : Type 0 where
  pub taken : passes.HasTaken p q
  pub played : passes.HasPlayed initial calls.Wait answers.Success p q

-- none was there in 10001 looks of the call, and in one more at least once it had slept, or had looked at the clock
pub record HasGivenUp (initial : ℕ) (p q : SemPass) : Type 0 where
  pub refused : WasRefused passes.IsEmpty 10002 p q
  pub played : passes.HasPlayed initial calls.Wait answers.Interrupted p q

-- a permit was taken without a wait, or none was there
pub record HasTakenNow (initial : ℕ) (p q : SemPass) : Type 0 where
  pub taken : passes.HasTaken p q
  pub played : passes.HasPlayed initial calls.TryWait answers.Success p q

pub record HasSeenNone (initial : ℕ) (p q : SemPass) : Type 0 where
  pub refused : WasRefused passes.IsEmpty 1 p q
  pub played : passes.HasPlayed initial calls.TryWait answers.Interrupted p q

-- so many were posted
pub record HasPosted (value initial : ℕ) (p q : SemPass) : Type 0 where
  pub given : HasDone (gave value) p q
  pub played : passes.HasPlayedPost initial value p q

module _ {A : Type 0} where
  -- the lock itself, whose pass is the object's
  abbrev pub below : SleepingSemaphore A → Semaphore A OwnWords
  below o = o.semaphore

  abbrev pub IsSleepingPass : SleepingSemaphore A → SemPass → Type 0
  IsSleepingPass o p = passes.IsSemPass (below o) p

  -- with how many permits it was made
  abbrev pub initial_of : SleepingSemaphore A → ℕ
  initial_of s = passes.initial_of s.semaphore

  -- the semaphore that it is a handle of, and its pass
  abbrev pub object_of : SemaphoreHandle A → SleepingSemaphore A
  object_of h = h.of.now

  abbrev pub pass_of : SemaphoreHandle A → SemPass
  pass_of h = h.pass

  -- which part of all passes that is
  abbrev pub part_with : SemaphoreHandle A → Part
  part_with h = part_of (pass_of h)

  -- still a handle of the same semaphore, and its pass has changed so
  pub record PassHas (Changed : ℕ → SemPass → SemPass → Type 0) (before after : SemaphoreHandle A) : Type 0 where
    pub object : object_of after ≡ object_of before
    pub changed : Changed (initial_of (object_of before)) (pass_of before) (pass_of after)

  -- the handle that took the permit, and which borrow of it that is
  abbrev pub handle_of : Permit A → SemaphoreHandle A
  handle_of permit = permit.handle.now

  abbrev pub borrow_of : Permit A → GName
  borrow_of permit = permit.handle.ghost_name
