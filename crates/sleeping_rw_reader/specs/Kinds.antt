-- What is so of each kind of hold: what a pass has with it, what calls ask for it, what refuses it, and what they change in the pass.
use Rattle.std.specs.Prelude.{◌≡◌, ℕ, ◌<◌, true}
use Rattle.model_events.specs.declared.event.Call.{Call}
use Rattle.model_events.specs.declared.hold.HoldKind.{HoldKind}
use Rattle.running_model.specs.Passes.{parties_of}
use Rattle.running_rw_reader.specs.RwReaderParties.{has_hold}
use Rattle.running_rw_reader.specs.RwReaderShown as passes
use Rattle.running_rw_reader.specs.RwReaderShown.{RwReaderPass}

-- the pass has a hold of this kind
abbrev pub Holds : HoldKind → RwReaderPass → Type 0
Holds HoldKind.Read p = (0 < passes.reads_of p) × (has_hold HoldKind.Read (parties_of p) ≡ true)
Holds HoldKind.Write p = (passes.writes_of p ≡ 1) × (has_hold HoldKind.Write (parties_of p) ≡ true)

-- the call that waits for one, and that which tries once
abbrev pub lock_of : HoldKind → Call ℕ
lock_of HoldKind.Read = Call.ReadLock
lock_of HoldKind.Write = Call.WriteLock

abbrev pub try_of : HoldKind → Call ℕ
try_of HoldKind.Read = Call.TryReadLock
try_of HoldKind.Write = Call.TryWriteLock

-- the values at which none is granted
abbrev pub Refuses : HoldKind → ℕ → Type 0
Refuses HoldKind.Read = passes.IsShut
Refuses HoldKind.Write = passes.IsTaken

-- it was granted, at last or at once; it was seen once that it is not; and it is off
abbrev pub HasEntered : HoldKind → RwReaderPass → RwReaderPass → Type 0
HasEntered HoldKind.Read = passes.HasEnteredToRead
HasEntered HoldKind.Write = passes.HasEnteredToWrite

abbrev pub HasEnteredAtOnce : HoldKind → RwReaderPass → RwReaderPass → Type 0
HasEnteredAtOnce HoldKind.Read = passes.HasReadAtOnce
HasEnteredAtOnce HoldKind.Write = passes.HasWrittenAtOnce

abbrev pub WasRefusedOnce : HoldKind → RwReaderPass → RwReaderPass → Type 0
WasRefusedOnce HoldKind.Read = passes.WasTurnedAway
WasRefusedOnce HoldKind.Write = passes.HasSeenTaken

abbrev pub HasUnlocked : HoldKind → RwReaderPass → RwReaderPass → Type 0
HasUnlocked HoldKind.Read = passes.HasLeftReading
HasUnlocked HoldKind.Write = passes.HasLeftWriting
