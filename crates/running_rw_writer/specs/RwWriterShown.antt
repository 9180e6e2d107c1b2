-- What contracts see of a writer-preferring lock and its pass, and what a call changes in a pass.
use Rattle.std.specs.Prelude.{◌≡◌, ◌≢◌, true, false, ◌⊎◌, ℕ, Bool, Option, ◌+◌, ◌-◌, ◌*◌, ◌%◌, ◌^◌, ◌<◌, ◌≤◌}
use Rattle.running_rw_writer.specs.Names.{Part, Sights, View, Pass, IsWhole, IsSamePass, view, part_of, sights_of, looked, missed, wrote, HasCalled, all_of, parties_of, tally_of, counted, HasOnlySeen, HasMoved, Call, Answer, HoldKind, rw_writer_model, Ghosts, RwHold, MarkedHolds, read_holds, write_holds, read, no_more_read, written, no_more_written, flagged}
use Rattle.atomic_table.specs.Seated.{TableId}
use Rattle.running_model.specs.Asked.{HasWokenOf, AskedOnce, AskedAfter}
use Rattle.running_model.specs.Stages.{IsPassOf, id_of}
use Rattle.std.specs.Borrow.{Bor}
use Rattle.std.specs.Fn.{Shared, Mut}
use Rattle.model_events.specs.declared.WaitAction.{WaitAction}
use Rattle.running_rw_writer.specs.declared.RwLockWriterPreference.{RwLockWriterPreference}
use Rattle.running_rw_writer.specs.declared.pass.RwWriterPass.{RwWriterPass}
use Rattle.running_rw_hold.specs.RwShown.{IsReadHold, IsWriteHold, kind_of, pass_of, TurnsAway}
use Rattle.running_rw_writer.specs.RwWriterParties.{Unlocks, unlocked, WriteGivesUp}
use Rattle.running_rw_writer.specs.RwWriterSteps.{PlayedRwWriter, IsMarked, IsOnly}

-- the pass inside, between two calls
abbrev pub pass_in : RwWriterPass → Pass PlayedRwWriter
pass_in p = p.pass

abbrev pub IsRwWriterPass : {A S : Type 0} → RwLockWriterPreference A S → RwWriterPass → Type 0
IsRwWriterPass l p = IsPassOf l.stage (pass_in p)

-- this is that one of its words, by its object and which of that object's words it is: 0 is the lock's, 1 its wake counter
abbrev pub IsItsWord : {A S : Type 0} → ℕ → RwLockWriterPreference A S → TableId → ℕ → Type 0
IsItsWord which l object index = (object ≡ id_of l.stage) × (index ≡ which)

module _ {X A S F : Type 0} where
  -- what the closure that wakes one writer promises of a call holds, of the wake counter
  abbrev pub HasWokenOne : Shared F (Bor X × Unit {0}) (Unit {0}) → (X → TableId) → (X → ℕ) → RwLockWriterPreference A S → F → Type 0
  HasWokenOne g object index l one = HasWokenOf g (λ word. IsItsWord 1 l (object word) (index word)) one

  -- so, and what the one that wakes all readers promises, of the lock's word
  abbrev pub HasWokenBoth : {G : Type 0} → Shared F (Bor X × Unit {0}) (Unit {0}) → Shared G (Bor X × Unit {0}) (Unit {0}) → (X → TableId) → (X → ℕ) → RwLockWriterPreference A S → F → G → Type 0
  HasWokenBoth g h object index l one all = HasWokenOne g object index l one × HasWokenOf h (λ word. IsItsWord 0 l (object word) (index word)) all

module _ {F X : Type 0} (g : Mut F (Bor X × (Bor ℕ × Unit {0})) WaitAction) (shown : X) where
  -- one call of the wait closure, of this word, was told a count, answered so, and led it from f to after
  abbrev pub AskedCount : F → WaitAction → F → Type 0
  AskedCount f action after = (count : ℕ) × (count < 2 ^ 64) × AskedOnce g shown f count action after

  -- It entered unasked; or these calls, and no other, led it from f to after, each but the last answered Continue, and the last of a call
  -- that gave up Abort.
  abbrev pub AskedCounts : F → F → Bool → Type 0
  AskedCounts f after entered = AskedAfter g shown (λ n. n < 2 ^ 64) 0 f after entered ⊥ 0 0

-- what the pass knows
abbrev pub known_by : RwWriterPass → View PlayedRwWriter
known_by p = view (pass_in p)

abbrev pub part_in : RwWriterPass → Part
part_in p = part_of (pass_in p)

abbrev pub sights_in : RwWriterPass → Sights
sights_in p = sights_of (pass_in p)

-- how many of the pass's read holds stand, and how many of its write holds
abbrev pub reads_of : Pass PlayedRwWriter → ℕ
reads_of p = read_holds (tally_of p).held

abbrev pub writes_of : Pass PlayedRwWriter → ℕ
writes_of p = write_holds (tally_of p).held

-- how many of its marks may stand
abbrev pub flags_of : Pass PlayedRwWriter → ℕ
flags_of p = (tally_of p).flags

-- The values at which a reader enters: no writer is in, the mark is not set, and there is room for one more. And those at which none does.
abbrev pub IsOpen : ℕ → Type 0
IsOpen word = (word % 2 ≡ 0) × (word < 2 ^ 64 - 4)

abbrev pub IsShut : ℕ → Type 0
IsShut word = (word % 2 ≡ 1) ⊎ (2 ^ 64 - 4 ≤ word)

-- the pass is whole, so that no other is left, and has no hold
abbrev pub IsAlone : RwWriterPass → Type 0
IsAlone p = IsWhole (part_in p) × (reads_of (pass_in p) ≡ 0) × (writes_of (pass_in p) ≡ 0)

-- so within a call, where its flag is down too
abbrev pub IsAloneWithin : Pass PlayedRwWriter → Type 0
IsAloneWithin p = IsOnly (part_of p) (tally_of p) × (reads_of p ≡ 0) × (writes_of p ≡ 0)

-- One more read hold is on, where at the value seen last a reader enters, and no write hold. Where no other pass is left, that value
-- is twice the number of the pass's own.
pub record EntersToRead (part : Part) (t u : MarkedHolds) (last : ℕ) : Type 0 where
  pub reads : read_holds u.held ≡ read_holds t.held + 1
  pub writes : (write_holds t.held ≡ 0) × (write_holds u.held ≡ 0)
  pub flags : u.flags ≡ t.flags
  pub grants : (u.read_grants ≡ t.read_grants + 1) × (u.write_grants ≡ t.write_grants)
  pub enters : IsOpen last
  pub alone : IsOnly part t → last ≡ 2 * read_holds t.held

-- so, and nothing else changed but what was seen on the way
abbrev pub HasEnteredToRead : Pass PlayedRwWriter → Pass PlayedRwWriter → Type 0
HasEnteredToRead = HasMoved EntersToRead

-- one look saw the value from which the read hold was then turned on, and nothing else changed
abbrev pub HasReadAtOnce : Pass PlayedRwWriter → Pass PlayedRwWriter → Type 0
HasReadAtOnce p q = counted q ≡ wrote (looked (counted p) (sights_of q).last) (read (tally_of p))

-- one look, or one and an exchange that failed, did not let the reader in
abbrev pub WasTurnedAway : Pass PlayedRwWriter → Pass PlayedRwWriter → Type 0
WasTurnedAway = TurnsAway counted HasOnlySeen IsShut

-- The write hold is on, where the pass had no hold, and was granted once more. The flag is down. Nothing else changed but what was seen
-- on the way.
pub record HasEnteredToWrite (p q : Pass PlayedRwWriter) : Type 0 where
  pub same : IsSamePass p q
  pub part : part_of q ≡ part_of p
  pub off : (reads_of p ≡ 0) × (writes_of p ≡ 0)
  pub on : (reads_of q ≡ 0) × (writes_of q ≡ 1)
  pub down : flags_of q ≡ 0
  pub tally : tally_of q ≡ written (tally_of p)
  pub more : (sights_of p).count ≤ (sights_of q).count
  pub not_fresh : (sights_of q).fresh ≡ false

-- so, where at the value seen last nobody held the lock
abbrev pub HasEnteredSeenFree : Pass PlayedRwWriter → Pass PlayedRwWriter → Type 0
HasEnteredSeenFree p q = HasEnteredToWrite p q × ((sights_of q).last < 2)

-- the write hold was turned on at once, and nothing else changed
abbrev pub HasWrittenAtOnce : Pass PlayedRwWriter → Pass PlayedRwWriter → Type 0
HasWrittenAtOnce p q = counted q ≡ wrote (counted p) (written (tally_of p))

-- one exchange of 0 saw that the lock is not free, and nothing else changed
abbrev pub HasSeenTaken : Pass PlayedRwWriter → Pass PlayedRwWriter → Type 0
HasSeenTaken p q = IsSamePass p q × ((sights_of q).last ≢ 0) × (counted q ≡ missed (counted p) 0 (sights_of q).last)

-- Within a call: a writer saw the word so often at least. No hold was turned on, and nothing else changed but what was seen and the flag.
pub record HasTried (n : ℕ) (p q : Pass PlayedRwWriter) : Type 0 where
  pub same : IsSamePass p q
  pub part : part_of q ≡ part_of p
  pub tally : tally_of q ≡ flagged (flags_of q) (tally_of p)
  pub more : (sights_of p).count + n ≤ (sights_of q).count

-- Within a call: a writer has just seen this. Where the mark was not set, its flag is down.
pub record HasJustSeen (found : ℕ) (q : Pass PlayedRwWriter) : Type 0 where
  pub last : (sights_of q).last ≡ found
  pub fresh : (sights_of q).fresh ≡ true
  pub down : ¬ IsMarked found → flags_of q ≡ 0

-- within a call: an exchange from the value that a writer had just seen found another, since another party had written in between
pub record HasMissedIt (found : ℕ) (p q : Pass PlayedRwWriter) : Type 0 where
  pub tried : HasTried 1 p q
  pub just : HasJustSeen found q
  pub missed : (sights_of q).missed ≡ true

-- why a writer may give up: it saw last that a hold stands, or another party wrote between its last two sights
abbrev pub MayGiveUp : Pass PlayedRwWriter → Type 0
MayGiveUp q = (2 ≤ (sights_of q).last) ⊎ ((sights_of q).missed ≡ true)

-- A `write_lock` gave up. No hold was turned on, its flag is down, and nothing else changed but what was seen on the way.
pub record HasGivenUpWriting (n : ℕ) (p q : Pass PlayedRwWriter) : Type 0 where
  pub same : IsSamePass p q
  pub part : part_of q ≡ part_of p
  pub tally : tally_of q ≡ flagged 0 (tally_of p)
  pub looked : (sights_of p).count + n ≤ (sights_of q).count
  pub cause : MayGiveUp q

-- One read hold is off, and nothing else changed. The value seen last is the one from which it was taken away.
pub record HasLeftReading (p q : Pass PlayedRwWriter) : Type 0 where
  pub same : IsSamePass p q
  pub reads : reads_of q + 1 ≡ reads_of p
  pub writes : (writes_of p ≡ 0) × (writes_of q ≡ 0)
  pub done : counted q ≡ wrote (looked (counted p) (sights_of q).last) (no_more_read (tally_of p))
  pub saw : (2 ≤ (sights_of q).last) × ((sights_of q).last < 2 ^ 64 - 1)

-- the write hold, which was the only hold, is off, and nothing else changed
pub record HasLeftWriting (p q : Pass PlayedRwWriter) : Type 0 where
  pub same : IsSamePass p q
  pub on : (reads_of p ≡ 0) × (writes_of p ≡ 1)
  pub off : (reads_of q ≡ 0) × (writes_of q ≡ 0)
  pub done : counted q ≡ wrote (counted p) (no_more_written (tally_of p))

-- The hold is off, and nothing else changed. What was done goes by the kind of the hold.
pub record HasUnlocked {G : Ghosts RwWriterPass} (hold : RwHold RwWriterPass G) (q : RwWriterPass) : Type 0 where
  pub same : IsSamePass (pass_in (pass_of hold)) (pass_in q)
  pub reading : IsReadHold hold → HasLeftReading (pass_in (pass_of hold)) (pass_in q)
  pub writing : IsWriteHold hold → HasLeftWriting (pass_in (pass_of hold)) (pass_in q)

-- The pass as a party of the model.

-- There is a run of the model, which keeps the lock's law, in which a party of the pass has just been answered so by this call. It is
-- the one call that the pass has made since, as a party that is new; and it has this hold now.
abbrev pub HasPlayed : Call ℕ → Answer ℕ → Option HoldKind → Pass PlayedRwWriter → Pass PlayedRwWriter → Type 0
HasPlayed call answer hold p q = HasCalled rw_writer_model call answer hold (parties_of p) (parties_of q)

-- so a `write_lock` that gave up, but where it has taken a mark away it is to wake one and then all
abbrev pub HasPlayedGivingUp : Type 0 → Pass PlayedRwWriter → Pass PlayedRwWriter → Type 0
HasPlayedGivingUp Woke p q = WriteGivesUp Woke (all_of (parties_of p)) (parties_of q)

-- the party that had this hold has let it go, and counted where it has to; it is answered, or is to wake
abbrev pub HasPlayedUnlock : {G : Ghosts RwWriterPass} → RwHold RwWriterPass G → RwWriterPass → Type 0
HasPlayedUnlock hold q = Unlocks (kind_of hold) (unlocked (kind_of hold) (sights_in q).last) (parties_of (pass_in (pass_of hold))) (parties_of (pass_in q))

-- The holds are as they were. On the way the pass may have been granted and unlocked, and have seen the lock.
pub record HasStayed (p q : RwWriterPass) : Type 0 where
  pub same : IsSamePass (pass_in p) (pass_in q)
  pub reads : reads_of (pass_in q) ≡ reads_of (pass_in p)
  pub writes : writes_of (pass_in q) ≡ writes_of (pass_in p)
  pub part : part_in q ≡ part_in p
  pub saw : (sights_in p).count ≤ (sights_in q).count
