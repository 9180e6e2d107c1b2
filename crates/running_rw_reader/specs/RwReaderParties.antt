-- The party of the model that a pass of a reader-preferring lock is, and how its calls go.
use Rattle.std.specs.Prelude.{ℕ, Bool, List, None}
use Rattle.running_rw_reader.specs.Names.{Call, Then, HoldKind, RwReaderPlace, rw_reader_table, rw_reader_model, Slot, Parties, IsAt, IsHolding}
use Rattle.running_model.specs.Holding.{is_holding}

-- a party of the pass has a hold of this kind
abbrev pub has_hold : HoldKind → Parties ℕ → Bool
has_hold kind p = is_holding {P = RwReaderPlace} rw_reader_table kind p

-- The party that had a hold of this kind has begun an `Unlock` and made its release, in a run that keeps the lock's law; and is to wake one.
abbrev pub Unlocks : HoldKind → Parties ℕ → Parties ℕ → Type 0
Unlocks kind p q = (done : List (Slot ℕ)) → IsHolding rw_reader_model kind done p → IsAt rw_reader_model Call.Unlock RwReaderPlace.Wake Then.GoesOn None done q
