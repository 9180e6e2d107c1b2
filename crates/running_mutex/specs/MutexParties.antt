-- A party of the model that has a mutex, and that lets it go.
use Rattle.std.specs.Prelude.{◌≡◌, ℕ, true, List, None}
use Rattle.running_mutex.specs.Names.{Call, Then, HoldKind, MutexPlace, mutex_table, mutex_model, Slot, Parties, IsAt, IsHolding}
use Rattle.running_model.specs.Holding.{is_holding}

-- a party of the pass has the mutex
abbrev pub HasMutex : Parties ℕ → Type 0
HasMutex p = is_holding {P = MutexPlace} mutex_table HoldKind.Write p ≡ true

-- The party that had the mutex has begun an `Unlock` and stored 0, in a run that keeps the mutex's law; and is to wake one.
abbrev pub Unlocks : Parties ℕ → Parties ℕ → Type 0
Unlocks p q = (done : List (Slot ℕ)) → IsHolding mutex_model HoldKind.Write done p → IsAt mutex_model Call.Unlock MutexPlace.Wake Then.GoesOn None done q
