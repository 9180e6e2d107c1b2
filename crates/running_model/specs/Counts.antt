-- What a call changes in what a pass of an object that plays a model counts and saw; what it changes in its parties is said apart.
use Rattle.std.specs.Prelude.{◌≡◌, ℕ}
use Rattle.running_model.specs.Names.{Bor, Shared, WaitAction, Part, Pass, HasLooked, HasOnlyRead, HasWritten, looked, missed, wrote, part_of, sights_of, IsSamePass, HasAsked}
use Rattle.running_model.specs.declared.played.Played.{Played}
use Rattle.running_model.specs.Passes.{counts_of, counted}

module _ {M Q V C : Type 0} where
  -- the word was seen to be this, and nothing else changed
  abbrev pub HasSeen : ℕ → Pass (Played M Q V C) → Pass (Played M Q V C) → Type 0
  HasSeen n p q = IsSamePass p q × (counted q ≡ looked (counted p) n)

  -- an exchange from a value found another, and nothing else changed
  abbrev pub HasMissed : ℕ → ℕ → Pass (Played M Q V C) → Pass (Played M Q V C) → Type 0
  HasMissed from n p q = IsSamePass p q × (counted q ≡ missed (counted p) from n)

  -- a write was done that made the counts this, and nothing else changed
  abbrev pub HasDone : (C → C) → Pass (Played M Q V C) → Pass (Played M Q V C) → Type 0
  HasDone f p q = IsSamePass p q × (counted q ≡ wrote (counted p) (f (counts_of p)))

  -- nothing was counted, and nothing changed but what was seen
  pub record HasOnlySeen (p q : Pass (Played M Q V C)) : Type 0 where
    pub same : IsSamePass p q
    pub counts : counts_of q ≡ counts_of p
    pub part : part_of q ≡ part_of p
    pub saw : HasOnlyRead (sights_of p) (sights_of q)

  -- A write moved the counts so, and nothing else changed but what was seen on the way. `Moves` is told the part, the counts before and
  -- after, and the value seen last.
  pub record HasMoved (Moves : Part → C → C → ℕ → Type 0) (p q : Pass (Played M Q V C)) : Type 0 where
    pub same : IsSamePass p q
    pub counts : Moves (part_of p) (counts_of p) (counts_of q) (sights_of q).last
    pub part : part_of q ≡ part_of p
    pub saw : HasWritten (sights_of p) (sights_of q)

  -- Nothing was counted. At least n more sights were counted, and the last of them is of a value that refuses.
  pub record WasRefused (IsRefusing : ℕ → Type 0) (n : ℕ) (p q : Pass (Played M Q V C)) : Type 0 where
    pub stayed : HasOnlySeen p q
    pub looked : HasLooked IsRefusing n (sights_of p) (sights_of q)

  -- so, and the value that refused is this
  abbrev pub WasRefusedAt : (ℕ → Type 0) → ℕ → ℕ → Pass (Played M Q V C) → Pass (Played M Q V C) → Type 0
  WasRefusedAt IsRefusing seen n p q = WasRefused (λ m. (m ≡ seen) × IsRefusing seen) n p q

-- The waiting call was refused with the value, after 10001 looks by itself and those that it made once it had asked.
abbrev pub HasGivenUp : {F W M Q V C : Type 0} → Shared F (Bor W × (Bor ℕ × Unit {0})) WaitAction → F → (ℕ → Type 0) → Pass (Played M Q V C) → Pass (Played M Q V C) → Type 0
HasGivenUp g wait P p q = WasRefused P 10002 p q × HasAsked g wait P 10001 p q
