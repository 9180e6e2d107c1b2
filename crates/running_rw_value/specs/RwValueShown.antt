-- What contracts see of a lock that guards a value for many readers or one writer, and of its guards. Its pass is the writer-preferring
-- lock's, and so what a call changes in a pass stands with that lock.
use Rattle.std.specs.Borrow.{GName, Bor}
use Rattle.std.specs.Fn.{Once, FnOnceReturns, FnOnceReturnsAtMut}
use Rattle.std.specs.Borrow.{MutBor}
use Rattle.std.specs.Prelude.{Some}
use Rattle.std.specs.Sync.RwLock.{read_guard_value, write_guard_value}
use Rattle.model_events.specs.declared.event.Call.TheVariants as calls
use Rattle.model_events.specs.declared.event.Answer.TheVariants as answers
use Rattle.model_events.specs.declared.hold.HoldKind.{HoldKind}
use Rattle.model_events.specs.declared.hold.HoldKind.TheVariants as kinds
use Rattle.running_model.specs.Passes.{parties_of}
use Rattle.running_model.specs.declared.wait.OwnWords.{OwnWords}
use Rattle.running_rw_writer.specs.declared.RwLockWriterPreference.{RwLockWriterPreference}
use Rattle.running_rw_writer.specs.declared.pass.RwWriterPass.{RwWriterPass}
use Rattle.running_rw_writer.specs.RwWriterParties.{Unlocks, unlocked}
use Rattle.running_rw_writer.specs.RwWriterShown.{IsRwWriterPass, pass_in, sights_in, HasEnteredToRead, HasEnteredToWrite, HasLeftReading, HasLeftWriting, HasPlayed}
use Rattle.running_rw_value.specs.declared.lock.RwLock.{RwLock}
use Rattle.running_rw_value.specs.declared.guard.ReadGuard.{ReadGuard}
use Rattle.running_rw_value.specs.declared.guard.WriteGuard.{WriteGuard}

module _ {T A : Type 0} where
  -- the lock in front
  abbrev pub front_of : RwLock T A → RwLockWriterPreference A OwnWords
  front_of l = l.lock

  -- the pass belongs to this lock
  abbrev pub IsRwValuePass : RwLock T A → RwWriterPass → Type 0
  IsRwValuePass l p = IsRwWriterPass (front_of l) p

  -- the pass that a reader's guard borrows, by which borrow, and what the guard lends
  abbrev pub reader_pass : ReadGuard T A → RwWriterPass
  reader_pass g = g.pass.now

  abbrev pub reader_borrow : ReadGuard T A → GName
  reader_borrow g = g.pass.ghost_name

  abbrev pub reader_value : ReadGuard T A → T
  reader_value g = read_guard_value g.value

  -- so, of a writer's
  abbrev pub writer_pass : WriteGuard T A → RwWriterPass
  writer_pass g = g.held.pass.now

  abbrev pub writer_borrow : WriteGuard T A → GName
  writer_borrow g = g.held.pass.ghost_name

  abbrev pub writer_value : WriteGuard T A → T
  writer_value g = write_guard_value g.value

-- the party of the pass that had this hold has let it go, and counted where it has to; it is answered, or is to wake
abbrev pub PlaysUnlock : HoldKind → RwWriterPass → RwWriterPass → Type 0
PlaysUnlock kind p q = Unlocks kind (unlocked kind (sights_in q).last) (parties_of (pass_in p)) (parties_of (pass_in q))

-- The pass has come in for reading, as a `ReadLock` of the model that was granted, and has left again by an `Unlock`. Nothing else
-- changed but what was seen on the way.
pub record HasReadOnce (p q : RwWriterPass) : Type 0 where
  pub within : RwWriterPass
  pub entered : HasEnteredToRead (pass_in p) (pass_in within)
  pub came : HasPlayed calls.ReadLock answers.Success (Some kinds.Read) (pass_in p) (pass_in within)
  pub left : HasLeftReading (pass_in within) (pass_in q)
  pub went : PlaysUnlock kinds.Read within q

-- so, for writing
pub record HasWrittenOnce (p q : RwWriterPass) : Type 0 where
  pub within : RwWriterPass
  pub entered : HasEnteredToWrite (pass_in p) (pass_in within)
  pub came : HasPlayed calls.WriteLock answers.Success (Some kinds.Write) (pass_in p) (pass_in within)
  pub left : HasLeftWriting (pass_in within) (pass_in q)
  pub went : PlaysUnlock kinds.Write within q

-- by what the closure promises of its calls, it gave this at some value that it was lent
pub record Looks {F T X : Type 0} (g : Once F (Bor T × Unit {0}) X) (act : F) (given : X) : Type 0 where
  pub found : Bor T
  pub says : FnOnceReturns g act (found, tt) given

-- so, and made some value of the one that it was lent
pub record Acts {F T X : Type 0} (g : Once F (MutBor T × Unit {0}) (X × (MutBor T × Unit {0}))) (act : F) (given : X) : Type 0 where
  pub found : T
  pub left : T
  pub says : FnOnceReturnsAtMut g act found given left
