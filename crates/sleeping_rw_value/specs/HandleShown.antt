-- What contracts see of a handle: the value that it is of, and what a call changes in its pass.
use Rattle.std.specs.Prelude.{◌≡◌, Some, None}
use Rattle.std.specs.Borrow.{GName}
use Rattle.std.specs.Sync.RwLock.{read_guard_value, write_guard_value}
use Rattle.model_events.specs.declared.event.Call.TheVariants as calls
use Rattle.model_events.specs.declared.event.Answer.TheVariants as answers
use Rattle.model_events.specs.declared.hold.HoldKind.TheVariants as kinds
use Rattle.running_model.specs.Counts.{WasRefused}
use Rattle.running_rw_writer.specs.declared.pass.RwWriterPass.{RwWriterPass}
use Rattle.running_rw_writer.specs.RwWriterShown as passes
use Rattle.running_rw_value.specs.RwValueShown.{IsRwValuePass, PlaysUnlock}
use Rattle.running_passes.specs.declared.part.Part.{Part}
use Rattle.running_rw_value.specs.declared.lock.RwLock.{RwLock}
use Rattle.sleeping_rw_value.specs.declared.SleepingRwValue.{SleepingRwValue}
use Rattle.sleeping_rw_value.specs.declared.RwValueHandle.{RwValueHandle}
use Rattle.sleeping_rw_value.specs.declared.Held.TheVariants as held_as
use Rattle.sleeping_rw_value.specs.declared.locked.Reading.{Reading}
use Rattle.sleeping_rw_value.specs.declared.locked.Writing.{Writing}
use Rattle.sleeping_rw_value.specs.declared.locked.Reader.{Reader}
use Rattle.sleeping_rw_value.specs.declared.locked.Writer.{Writer}

-- a reader was turned away in 10001 looks of its own, and in one more at least once it had slept, or had looked at the clock
pub record HasGivenUpReading (p q : RwWriterPass) : Type 0 where
  pub refused : WasRefused passes.IsShut 10002 (passes.pass_in p) (passes.pass_in q)
  pub played : passes.HasPlayed calls.ReadLock answers.Interrupted None (passes.pass_in p) (passes.pass_in q)

-- so a writer, which looks once more before it sleeps
pub record HasGivenUpWriting (p q : RwWriterPass) : Type 0 where
  pub refused : passes.HasGivenUpWriting 10003 (passes.pass_in p) (passes.pass_in q)
  pub played : passes.HasPlayedGivingUp (Unit {0}) (passes.pass_in p) (passes.pass_in q)

-- By a guard, in two: a reader or a writer has come in, at last or at once, and has not left yet; and it has left.
pub record HasComeInToRead (p q : RwWriterPass) : Type 0 where
  pub entered : passes.HasEnteredToRead (passes.pass_in p) (passes.pass_in q)
  pub came : passes.HasPlayed calls.ReadLock answers.Success (Some kinds.Read) (passes.pass_in p) (passes.pass_in q)

pub record HasComeInToWrite (p q : RwWriterPass) : Type 0 where
  pub entered : passes.HasEnteredToWrite (passes.pass_in p) (passes.pass_in q)
  pub came : passes.HasPlayed calls.WriteLock answers.Success (Some kinds.Write) (passes.pass_in p) (passes.pass_in q)

pub record HasReadNow (p q : RwWriterPass) : Type 0 where
  pub at_once : passes.HasReadAtOnce (passes.pass_in p) (passes.pass_in q)
  pub came : passes.HasPlayed calls.TryReadLock answers.Success (Some kinds.Read) (passes.pass_in p) (passes.pass_in q)

pub record HasWrittenNow (p q : RwWriterPass) : Type 0 where
  pub at_once : passes.HasWrittenAtOnce (passes.pass_in p) (passes.pass_in q)
  pub came : passes.HasPlayed calls.TryWriteLock answers.Success (Some kinds.Write) (passes.pass_in p) (passes.pass_in q)

pub record HasLeftReading (p q : RwWriterPass) : Type 0 where
  pub left : passes.HasLeftReading (passes.pass_in p) (passes.pass_in q)
  pub went : PlaysUnlock kinds.Read p q

pub record HasLeftWriting (p q : RwWriterPass) : Type 0 where
  pub left : passes.HasLeftWriting (passes.pass_in p) (passes.pass_in q)
  pub went : PlaysUnlock kinds.Write p q

-- a reader came in at once, and has left
pub record HasReadAtOnce (p q : RwWriterPass) : Type 0 where
  pub within : RwWriterPass
  pub entered : passes.HasEnteredToRead (passes.pass_in p) (passes.pass_in within)
  pub at_once : passes.HasReadAtOnce (passes.pass_in p) (passes.pass_in within)
  pub came : passes.HasPlayed calls.TryReadLock answers.Success (Some kinds.Read) (passes.pass_in p) (passes.pass_in within)
  pub left : passes.HasLeftReading (passes.pass_in within) (passes.pass_in q)
  pub went : PlaysUnlock kinds.Read within q

-- so, a writer
pub record HasWrittenAtOnce (p q : RwWriterPass) : Type 0 where
  pub within : RwWriterPass
  pub entered : passes.HasEnteredToWrite (passes.pass_in p) (passes.pass_in within)
  pub at_once : passes.HasWrittenAtOnce (passes.pass_in p) (passes.pass_in within)
  pub came : passes.HasPlayed calls.TryWriteLock answers.Success (Some kinds.Write) (passes.pass_in p) (passes.pass_in within)
  pub left : passes.HasLeftWriting (passes.pass_in within) (passes.pass_in q)
  pub went : PlaysUnlock kinds.Write within q

-- a reader was turned away once
pub record WasTurnedAway (p q : RwWriterPass) : Type 0 where
  pub refused : passes.WasTurnedAway (passes.pass_in p) (passes.pass_in q)
  pub played : passes.HasPlayed calls.TryReadLock answers.Interrupted None (passes.pass_in p) (passes.pass_in q)

-- a writer saw once that the lock is not free
pub record HasSeenTaken (p q : RwWriterPass) : Type 0 where
  pub refused : passes.HasSeenTaken (passes.pass_in p) (passes.pass_in q)
  pub played : passes.HasPlayed calls.TryWriteLock answers.Interrupted None (passes.pass_in p) (passes.pass_in q)

module _ {T A : Type 0} where
  -- the lock itself, whose pass is the object's
  abbrev pub below : SleepingRwValue T A → RwLock T A
  below o = o.value

  abbrev pub IsSleepingPass : SleepingRwValue T A → RwWriterPass → Type 0
  IsSleepingPass o p = IsRwValuePass (below o) p

  -- the value that it is a handle of, and its pass
  abbrev pub object_of : RwValueHandle T A → SleepingRwValue T A
  object_of h = h.of.now

  abbrev pub pass_of : RwValueHandle T A → RwWriterPass
  pass_of h = h.pass

  -- which part of all passes that is
  abbrev pub part_with : RwValueHandle T A → Part
  part_with h = passes.part_in (pass_of h)

  -- which guard of it is out
  abbrev pub IsReading : RwValueHandle T A → Type 0
  IsReading h = h.held ≡ held_as.Reading

  abbrev pub IsWriting : RwValueHandle T A → Type 0
  IsWriting h = h.held ≡ held_as.Writing

  -- the handle that a reader or a writer has
  abbrev pub handle_in : Reader T A → RwValueHandle T A
  handle_in reader = reader.handle.now

  abbrev pub handle_with : Writer T A → RwValueHandle T A
  handle_with writer = writer.handle.now

  -- the handle of a guard, which borrow of it that is, and what the guard lends
  abbrev pub reader_of : Reading T A → RwValueHandle T A
  reader_of guard = handle_in guard.held

  abbrev pub reader_borrow : Reading T A → GName
  reader_borrow guard = guard.held.handle.ghost_name

  abbrev pub reader_value : Reading T A → T
  reader_value guard = read_guard_value guard.value

  abbrev pub writer_of : Writing T A → RwValueHandle T A
  writer_of guard = handle_with guard.held

  abbrev pub writer_borrow : Writing T A → GName
  writer_borrow guard = guard.held.handle.ghost_name

  abbrev pub writer_value : Writing T A → T
  writer_value guard = write_guard_value guard.value

  -- still a handle of the same value, and its pass has changed so
  pub record PassHas (Changed : RwWriterPass → RwWriterPass → Type 0) (before after : RwValueHandle T A) : Type 0 where
    pub object : object_of after ≡ object_of before
    pub changed : Changed (pass_of before) (pass_of after)
