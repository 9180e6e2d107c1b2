-- What contracts see of a reader-preferring lock and its pass, and what a call changes in a pass.
use Rattle.std.specs.Prelude.{◌≡◌, ◌≢◌, ℕ, ◌+◌, ◌-◌, ◌^◌, ◌<◌, ◌≤◌, Option}
use Rattle.running_rw_reader.specs.Names.{Call, Answer, HoldKind, rw_reader_model, IsWhole, IsSamePass, part_of, sights_of, looked, missed, wrote, HasCalled, parties_of, tally_of, counted, HasOnlySeen, HasMoved, Ghosts, RwHold, read_holds, write_holds, Holds, no_holds, read, no_more_read, written}
use Rattle.running_passes.specs.declared.part.Part.{Part}
use Rattle.running_passes.specs.declared.pass.Pass.{Pass}
use Rattle.std.specs.Borrow.{RattleType, u64, unit}
use Rattle.running_passes.specs.contracts.pass.Pass.{the_row}
use Rattle.running_model.specs.contracts.played.Played as played_row
use Rattle.running_rw_hold.specs.contracts.rw_reader.RwReaderScript as script_row
use Rattle.model_rw_reader.specs.contracts.RwReaderPlace as place_row
use Rattle.running_rw_hold.specs.contracts.held.Held as held_row
use Rattle.running_model.specs.Stages.{IsPassOf, id_of}
use Rattle.atomic_table.specs.Seated.{TableId}
use Rattle.running_rw_reader.specs.declared.RwLockReaderPreference.{RwLockReaderPreference}
use Rattle.running_rw_hold.specs.RwShown.{IsReadHold, IsWriteHold, kind_of, pass_of, TurnsAway}
use Rattle.running_rw_reader.specs.RwReaderParties.{Unlocks}
use Rattle.running_rw_reader.specs.RwReaderSteps.{PlayedRwReader}

-- the pass of a reader-preferring lock
abbrev pub RwReaderPass : Type 0
RwReaderPass = Pass PlayedRwReader

-- its type, as the checker knows of what is lent
abbrev pub reader_row : RattleType
reader_row = the_row (played_row.the_row script_row.the_row place_row.the_row u64 (held_row.the_row unit))

abbrev pub IsRwReaderPass : {A S : Type 0} → RwLockReaderPreference A S → RwReaderPass → Type 0
IsRwReaderPass l p = IsPassOf l.stage p

-- this is its word, by its object and which of that object's words it is
abbrev pub IsItsWord : {A S : Type 0} → RwLockReaderPreference A S → TableId → ℕ → Type 0
IsItsWord l object index = (object ≡ id_of l.stage) × (index ≡ 0)

-- how many of the pass's read holds stand, and how many of its write holds
abbrev pub reads_of : RwReaderPass → ℕ
reads_of p = read_holds (tally_of p)

abbrev pub writes_of : RwReaderPass → ℕ
writes_of p = write_holds (tally_of p)

-- the values at which no reader enters: there is no room for one more, or a writer is in
abbrev pub IsShut : ℕ → Type 0
IsShut word = 2 ^ 64 - 2 ≤ word

-- the values at which no writer enters
abbrev pub IsTaken : ℕ → Type 0
IsTaken word = word ≢ 0

-- the pass is whole, so that no other is left, and has no hold
abbrev pub IsAlone : RwReaderPass → Type 0
IsAlone p = IsWhole (part_of p) × (reads_of p ≡ 0) × (writes_of p ≡ 0)

-- One more read hold is on, where there was room at the value seen last, and no write hold. Where no other pass is left, that value
-- is the number of the pass's own.
pub record EntersToRead (part : Part) (t u : Holds) (last : ℕ) : Type 0 where
  pub reads : read_holds u ≡ read_holds t + 1
  pub writes : (write_holds t ≡ 0) × (write_holds u ≡ 0)
  pub room : last < 2 ^ 64 - 2
  pub alone : IsWhole part → last ≡ read_holds t

-- the write hold is on, where the pass had no hold
pub record EntersToWrite (part : Part) (t u : Holds) (last : ℕ) : Type 0 where
  pub off : (read_holds t ≡ 0) × (write_holds t ≡ 0)
  pub on : (read_holds u ≡ 0) × (write_holds u ≡ 1)

-- so, and nothing else changed but what was seen on the way
abbrev pub HasEnteredToRead : RwReaderPass → RwReaderPass → Type 0
HasEnteredToRead = HasMoved EntersToRead

abbrev pub HasEnteredToWrite : RwReaderPass → RwReaderPass → Type 0
HasEnteredToWrite = HasMoved EntersToWrite

-- one look saw the value from which the read hold was then turned on, and nothing else changed
abbrev pub HasReadAtOnce : RwReaderPass → RwReaderPass → Type 0
HasReadAtOnce p q = counted q ≡ wrote (looked (counted p) (sights_of q).last) (read (tally_of p))

-- one look, or one and an exchange that failed, did not let the reader in
abbrev pub WasTurnedAway : RwReaderPass → RwReaderPass → Type 0
WasTurnedAway = TurnsAway counted HasOnlySeen IsShut

-- the write hold was turned on at once, and nothing else changed
abbrev pub HasWrittenAtOnce : RwReaderPass → RwReaderPass → Type 0
HasWrittenAtOnce p q = counted q ≡ wrote (counted p) written

-- one exchange saw a value at which no writer enters, and nothing else changed
abbrev pub HasSeenTaken : RwReaderPass → RwReaderPass → Type 0
HasSeenTaken p q = IsSamePass p q × IsTaken (sights_of q).last × (counted q ≡ missed (counted p) 0 (sights_of q).last)

-- one read hold is off, and nothing else changed
pub record HasLeftReading (p q : RwReaderPass) : Type 0 where
  pub same : IsSamePass p q
  pub reads : reads_of q + 1 ≡ reads_of p
  pub writes : (writes_of p ≡ 0) × (writes_of q ≡ 0)
  pub done : counted q ≡ wrote (counted p) (no_more_read (tally_of p))

-- the write hold, which was the only hold, is off, and nothing else changed
pub record HasLeftWriting (p q : RwReaderPass) : Type 0 where
  pub same : IsSamePass p q
  pub on : (reads_of p ≡ 0) × (writes_of p ≡ 1)
  pub off : (reads_of q ≡ 0) × (writes_of q ≡ 0)
  pub done : counted q ≡ wrote (counted p) no_holds

-- The hold is off, and nothing else changed. What was done goes by the kind of the hold.
pub record HasUnlocked {G : Ghosts (RwReaderPass)} (hold : RwHold (RwReaderPass) G) (q : RwReaderPass) : Type 0 where
  pub same : IsSamePass (pass_of hold) q
  pub reading : IsReadHold hold → HasLeftReading (pass_of hold) q
  pub writing : IsWriteHold hold → HasLeftWriting (pass_of hold) q

-- The pass as a party of the model.

-- There is a run of the model, which keeps the lock's law, in which a party of the pass has just been answered so by this call. It is
-- the one call that the pass has made since, as a party that is new; and it has this hold now.
abbrev pub HasPlayed : Call ℕ → Answer ℕ → Option HoldKind → RwReaderPass → RwReaderPass → Type 0
HasPlayed call answer hold p q = HasCalled rw_reader_model call answer hold (parties_of p) (parties_of q)

-- the party that had this hold has let it go, and is to wake one
abbrev pub HasPlayedUnlock : {G : Ghosts RwReaderPass} → RwHold RwReaderPass G → RwReaderPass → Type 0
HasPlayedUnlock hold q = Unlocks (kind_of hold) (parties_of (pass_of hold)) (parties_of q)

-- The holds are as they were. On the way the pass may have been granted and unlocked, and have seen the lock.
pub record HasStayed (p q : RwReaderPass) : Type 0 where
  pub same : IsSamePass p q
  pub reads : reads_of q ≡ reads_of p
  pub writes : writes_of q ≡ writes_of p
  pub part : part_of q ≡ part_of p
  pub saw : (sights_of p).count ≤ (sights_of q).count
