-- The word is what was given less what was taken, where each event changes all three alike.
use Rattle.model_semaphore.proofs.Names.{◌≡◌, ◌≢◌, ℕ, ◌+◌, ◌-◌, ◌%◌, ◌^◌, ◌≤◌, ◌<◌, Bool, true, false, cond, ◌⊎◌, inl, inr, arith, MatchBool}

-- what an event does to the word: nothing, a gift of some permits, or a take where the word was not 0
abbrev pub Effect : ℕ → ℕ → ℕ → Bool → Type 0
Effect w word given takes =
    ((word ≡ w) × (given ≡ 0) × (takes ≡ false))
    ⊎ (((word ≡ (w + given) % 2 ^ 64) × (takes ≡ false))
    ⊎ ((w ≢ 0) × (word ≡ w - 1) × (given ≡ 0) × (takes ≡ true)))

-- the word is what was given less what was taken, which is no more
abbrev pub Tallies : ℕ → ℕ → ℕ → Type 0
Tallies w given taken = (w ≡ (given - taken) % 2 ^ 64) × (taken ≤ given)

pub tallies_first : (initial : ℕ) → initial < 2 ^ 64 → Tallies initial initial 0
tallies_first initial fits = (omega (arith, fits), omega arith)

pub tallies_after : (w given taken word more : ℕ) (takes : Bool) → Tallies w given taken → Effect w word more takes → Tallies word (more + given) (cond takes 1 0 + taken)
tallies_after w given taken word more takes law (inl quiet) = rw (quiet.1, quiet.2) (omega (arith, law.0, law.1, quiet.0), omega (arith, law.1))
tallies_after w given taken word more takes law (inr (inl gift)) = rw gift.1 (omega (arith, law.0, law.1, gift.0), omega (arith, law.1))
tallies_after w given taken word more takes law (inr (inr take)) = rw (take.2, take.3) (omega (arith, law.0, law.1, take.0, take.1), omega (arith, law.0, law.1, take.0))

pub lowered : (w given taken word more : ℕ) (takes : Bool) → Tallies w given taken → Effect w word more takes →
    MatchBool takes ((given - taken) % 2 ^ 64 ≡ ((more + given) - (cond takes 1 0 + taken)) % 2 ^ 64 + 1) (Unit {0})
lowered w given taken word more false law effect = tt
lowered w given taken word more true law (inl quiet) = absurd cc
lowered w given taken word more true law (inr (inl gift)) = absurd cc
lowered w given taken word more true law (inr (inr take)) = rw take.2 (omega (arith, law.0, law.1, take.0))
