-- What contracts see of a handle: the mutex that it is of, and what a call changes in its pass.
use Rattle.std.specs.Prelude.{◌≡◌, Bool, Some, None}
use Rattle.std.specs.Borrow.{Bor, GName}
use Rattle.std.specs.Fn.{Once, FnOnceReturns}
use Rattle.model_events.specs.declared.event.Call.TheVariants as calls
use Rattle.model_events.specs.declared.event.Answer.TheVariants as answers
use Rattle.model_events.specs.declared.hold.HoldKind.TheVariants as kinds
use Rattle.running_model.specs.Counts.{WasRefused}
use Rattle.running_model.specs.declared.wait.OwnWords.{OwnWords}
use Rattle.running_mutex.specs.MutexShown.{IsLocked, IsMutexPass, HasLocked, HasUnlocked, HasPlayedUnlock, MutexPass, HasEntered, HasSeenLocked as HasPassSeenLocked, HasPlayed}
use Rattle.running_mutex.specs.declared.MutexHold.{MutexHold}
use Rattle.running_passes.specs.declared.part.Part.{Part}
use Rattle.running_passes.specs.Passes.{part_of}
use Rattle.running_mutex.specs.declared.Mutex.{Mutex}
use Rattle.sleeping_mutex.specs.declared.SleepingMutex.{SleepingMutex}
use Rattle.sleeping_mutex.specs.declared.MutexHandle.{MutexHandle}
use Rattle.sleeping_mutex.specs.declared.locked.Locked.{Locked}

-- by what the closure promises of its calls, it gave this at some hold that it was shown
pub record Acts {F X : Type 0} (g : Once F (Bor MutexHold × Unit {0}) X) (act : F) (given : X) : Type 0 where
  pub shown : Bor MutexHold
  pub says : FnOnceReturns g act (shown, tt) given

-- The pass was granted by a `Lock` of the model, and has not let go yet; so, at the first exchange; and it has let go by an `Unlock`.
-- Nothing else changed but what was seen on the way.
pub record HasComeIn (p q : MutexPass) : Type 0 where
  pub entered : HasEntered p q
  pub came : HasPlayed calls.Lock answers.Success (Some kinds.Write) p q

pub record HasComeInAtOnce (p q : MutexPass) : Type 0 where
  pub locked : HasLocked p q
  pub came : HasPlayed calls.TryLock answers.Success (Some kinds.Write) p q

pub record HasLetGo (p q : MutexPass) : Type 0 where
  pub unlocked : HasUnlocked p q
  pub went : HasPlayedUnlock p q

-- both, one after the other
pub record HasLockedOnce (p q : MutexPass) : Type 0 where
  pub within : MutexPass
  pub came_in : HasComeIn p within
  pub let_go : HasLetGo within q

pub record HasLockedAtOnce (p q : MutexPass) : Type 0 where
  pub within : MutexPass
  pub came_in : HasComeInAtOnce p within
  pub let_go : HasLetGo within q

-- the call was refused in 10001 tries of its own, and in one more at least once it had slept, or had looked at the clock
pub record HasGivenUp (p q : MutexPass) : Type 0 where
  pub refused : WasRefused IsLocked 10002 p q
  pub played : HasPlayed calls.Lock answers.Interrupted None p q

-- the mutex was seen locked once
pub record HasSeenLocked (p q : MutexPass) : Type 0 where
  pub refused : HasPassSeenLocked p q
  pub played : HasPlayed calls.TryLock answers.Interrupted None p q

module _ {A : Type 0} where
  -- the lock itself, whose pass is the object's
  abbrev pub below : SleepingMutex A → Mutex A OwnWords
  below o = o.mutex

  abbrev pub IsSleepingPass : SleepingMutex A → MutexPass → Type 0
  IsSleepingPass o p = IsMutexPass (below o) p

  -- the mutex that it is a handle of, and its pass
  abbrev pub object_of : MutexHandle A → SleepingMutex A
  object_of h = h.of.now

  abbrev pub pass_of : MutexHandle A → MutexPass
  pass_of h = h.pass

  -- which part of all passes that is
  abbrev pub part_with : MutexHandle A → Part
  part_with h = part_of (pass_of h)

  -- whether its guard is out
  abbrev pub is_held : MutexHandle A → Bool
  is_held h = h.held

  -- the handle of a guard, and which borrow of it that is
  abbrev pub handle_of : Locked A → MutexHandle A
  handle_of guard = guard.handle.now

  abbrev pub borrow_of : Locked A → GName
  borrow_of guard = guard.handle.ghost_name

  -- still a handle of the same mutex, and its pass has changed so
  pub record PassHas (Changed : MutexPass → MutexPass → Type 0) (before after : MutexHandle A) : Type 0 where
    pub object : object_of after ≡ object_of before
    pub changed : Changed (pass_of before) (pass_of after)
