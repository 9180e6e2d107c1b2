-- A party of the model that waits for a spin lock, has it, and lets it go.
use Rattle.std.specs.Prelude.{◌≡◌, ℕ, true, ◌⊎◌, List, Some, None}
use Rattle.running_spin_lock.specs.Names.{Call, Answer, Then, HoldKind, SpinPlace, spin_table, Slot, Parties, IsAt, IsHolding, HasEnded, is_holding}
use Rattle.running_spin_lock.specs.Spin.{spin_model}

-- the call swaps until it has the lock
abbrev pub IsWaiting : Call ℕ → Type 0
IsWaiting call = (call ≡ Call.Lock) ⊎ (call ≡ Call.BlockingLock)

-- a party of the pass has it under way, and swaps again next
abbrev pub IsSpinning : Call ℕ → List (Slot ℕ) → Parties ℕ → Type 0
IsSpinning call done p = IsAt spin_model call SpinPlace.Lock Then.GoesOn None done p

-- it was answered `Success`, and has the lock
abbrev pub IsGranted : Call ℕ → List (Slot ℕ) → Parties ℕ → Type 0
IsGranted call done p = HasEnded spin_model call Answer.Success (Some HoldKind.Write) done p

-- a party of the pass has the lock
abbrev pub HasLock : Parties ℕ → Type 0
HasLock p = is_holding {P = SpinPlace} spin_table HoldKind.Write p ≡ true

-- The party that had the lock has begun an `Unlock`, stored 0, and was answered `Done`, in a run that keeps the spin lock's law.
abbrev pub Unlocks : Parties ℕ → Parties ℕ → Type 0
Unlocks p q = (done : List (Slot ℕ)) → IsHolding spin_model HoldKind.Write done p → HasEnded spin_model Call.Unlock Answer.Done None done q
