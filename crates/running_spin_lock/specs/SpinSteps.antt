-- What a step on the word of a spin lock changes in what a seat knows, and what the seat is in the model.
use Rattle.std.specs.Prelude.{ℕ, Option, Some}
use Rattle.running_spin_lock.specs.Names.{Call, Answer, HoldKind, seen, Parties, HasCalled}
use Rattle.running_spin_lock.specs.Spin.{spin_model, SpinView}
use Rattle.running_spin_lock.specs.ValueSteps.{Sees, Plays}
use Rattle.running_spin_lock.specs.SpinParties.{Unlocks}

-- a swap of 1 found the lock taken: one more sight, at 1
abbrev pub SeesLocked : SpinView → SpinView → Type 0
SeesLocked v w = Sees (λ s. seen s 1) v w

-- The pass as a party of the model.

-- There is a run of the model, which keeps the spin lock's law, in which a party of the pass has just been answered so by this call. It is
-- the one call that the pass has made since, as a party that is new; and it has this hold now.
abbrev pub HasPlayed : Call ℕ → Answer ℕ → Option HoldKind → SpinView → SpinView → Type 0
HasPlayed call answer hold v w = Plays spin_model call answer hold v w

-- the party that had the lock has begun an `Unlock`, stored 0 and was answered `Done`
abbrev pub HasPlayedUnlock : SpinView → SpinView → Type 0
HasPlayedUnlock v w = Unlocks v.tally.parties w.tally.parties

-- the pass has made this call, which was granted, and then, as that party, an `Unlock`
abbrev pub HasPlayedBoth : Call ℕ → SpinView → SpinView → Type 0
HasPlayedBoth call v w = (held : Parties ℕ) × HasCalled spin_model call Answer.Success (Some HoldKind.Write) v.tally.parties held × Unlocks held w.tally.parties
