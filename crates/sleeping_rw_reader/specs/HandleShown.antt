-- What contracts see of a handle: the lock that it is of, and what a call changes in its pass.
use Rattle.std.specs.Prelude.{◌≡◌, Some, None}
use Rattle.std.specs.Borrow.{GName}
use Rattle.model_events.specs.declared.event.Answer.TheVariants as answers
use Rattle.model_events.specs.declared.hold.HoldKind.{HoldKind}
use Rattle.running_model.specs.Counts.{WasRefused}
use Rattle.running_model.specs.Passes.{parties_of}
use Rattle.running_model.specs.declared.wait.OwnWords.{OwnWords}
use Rattle.running_passes.specs.declared.part.Part.{Part}
use Rattle.running_passes.specs.Passes.{part_of}
use Rattle.running_rw_reader.specs.RwReaderParties.{Unlocks}
use Rattle.running_rw_reader.specs.RwReaderShown.{RwReaderPass, IsRwReaderPass, HasPlayed}
use Rattle.running_rw_reader.specs.declared.RwLockReaderPreference.{RwLockReaderPreference}
use Rattle.sleeping_rw_reader.specs.Kinds.{Refuses, lock_of, try_of, HasEntered, HasEnteredAtOnce, WasRefusedOnce, HasUnlocked}
use Rattle.sleeping_rw_reader.specs.declared.SleepingRwReader.{SleepingRwReader}
use Rattle.sleeping_rw_reader.specs.declared.RwReaderHandle.{RwReaderHandle}
use Rattle.sleeping_rw_reader.specs.declared.Held.TheVariants as held_as
use Rattle.sleeping_rw_reader.specs.declared.locked.Reading.{Reading}
use Rattle.sleeping_rw_reader.specs.declared.locked.Writing.{Writing}

module _ (kind : HoldKind) (p q : RwReaderPass) where
  -- The pass was granted a hold of this kind, and has not let go yet; so, at the first try; and it has let go. Nothing else changed but what
  -- was seen on the way.
  pub record HasComeIn : Type 0 where
    pub entered : HasEntered kind p q
    pub came : HasPlayed (lock_of kind) answers.Success (Some kind) p q

  pub record HasComeInAtOnce : Type 0 where
    pub entered : HasEntered kind p q
    pub at_once : HasEnteredAtOnce kind p q
    pub came : HasPlayed (try_of kind) answers.Success (Some kind) p q

  pub record HasLetGo : Type 0 where
    pub unlocked : HasUnlocked kind p q
    pub went : Unlocks kind (parties_of p) (parties_of q)

  -- the call was refused in 10001 tries of its own, and in one more at least once it had slept, or had looked at the clock
  pub record HasGivenUp : Type 0 where
    pub refused : WasRefused (Refuses kind) 10002 p q
    pub played : HasPlayed (lock_of kind) answers.Interrupted None p q

  -- it was refused once
  pub record WasTurnedAway : Type 0 where
    pub refused : WasRefusedOnce kind p q
    pub played : HasPlayed (try_of kind) answers.Interrupted None p q

module _ {A : Type 0} where
  -- the lock itself, whose pass is the object's
  abbrev pub below : SleepingRwReader A → RwLockReaderPreference A OwnWords
  below o = o.lock

  abbrev pub IsSleepingPass : SleepingRwReader A → RwReaderPass → Type 0
  IsSleepingPass o p = IsRwReaderPass (below o) p

  -- the lock that it is a handle of, and its pass
  abbrev pub object_of : RwReaderHandle A → SleepingRwReader A
  object_of h = h.of.now

  abbrev pub pass_of : RwReaderHandle A → RwReaderPass
  pass_of h = h.pass

  -- which part of all passes that is
  abbrev pub part_with : RwReaderHandle A → Part
  part_with h = part_of (pass_of h)

  -- which guard of it is out
  abbrev pub IsReading : RwReaderHandle A → Type 0
  IsReading h = h.held ≡ held_as.Reading

  abbrev pub IsWriting : RwReaderHandle A → Type 0
  IsWriting h = h.held ≡ held_as.Writing

  -- the handle of a guard, and which borrow of it that is
  abbrev pub reader_of : Reading A → RwReaderHandle A
  reader_of guard = guard.handle.now

  abbrev pub reader_borrow : Reading A → GName
  reader_borrow guard = guard.handle.ghost_name

  abbrev pub writer_of : Writing A → RwReaderHandle A
  writer_of guard = guard.handle.now

  abbrev pub writer_borrow : Writing A → GName
  writer_borrow guard = guard.handle.ghost_name

  -- still a handle of the same lock, and its pass has changed so
  pub record PassHas (Changed : RwReaderPass → RwReaderPass → Type 0) (before after : RwReaderHandle A) : Type 0 where
    pub object : object_of after ≡ object_of before
    pub changed : Changed (pass_of before) (pass_of after)
