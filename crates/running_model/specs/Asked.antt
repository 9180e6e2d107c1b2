-- What a call asked its wait closure, and what it called its wake closures with.
use Rattle.std.specs.Prelude.{◌≡◌, ℕ, ◌+◌, Bool, true, false, ◌⊎◌, length, List, [], ◌∷◌}
use Rattle.std.specs.Borrow.{Bor}
use Rattle.std.specs.List.{FoldsTo}
use Rattle.std.specs.Fn.{Mut, Shared, Called, CalledAt, FnReturnsAt}
use Rattle.model_events.specs.declared.WaitAction.{WaitAction}

-- the last of these was answered Abort
abbrev pub EndsInAbort : List (ℕ × WaitAction) → Type 0
EndsInAbort [] = ⊥
EndsInAbort (x ∷ []) = x.1 ≡ WaitAction.Abort
EndsInAbort (x ∷ y ∷ xs) = EndsInAbort (y ∷ xs)

-- one call of it, of this word, was told this, answered so, and led it from f to after
pub record AskedOnce {F X R : Type 0} (g : Mut F (Bor X × (Bor ℕ × Unit {0})) R) (shown : X) (f : F) (told : ℕ) (answer : R) (after : F) : Type 0 where
  pub word : Bor X
  pub seen : Bor ℕ
  pub shows : word.now ≡ shown
  pub tells : seen.now ≡ told
  pub called : Called g f (word, (seen, tt)) answer after

module _ {F X : Type 0} (g : Mut F (Bor X × (Bor ℕ × Unit {0})) WaitAction) (shown : X) where
  module _ (refuses : ℕ → Type 0) where
    -- The first was told this, each other a value that refused; each but the last was answered Continue.
    abbrev pub Asks : ℕ → List (ℕ × WaitAction) → Type 0
    Asks told [] = ⊥
    Asks told (x ∷ []) = x.0 ≡ told
    Asks told (x ∷ y ∷ xs) = (x.0 ≡ told) × (x.1 ≡ WaitAction.Continue) × refuses y.0 × Asks y.0 (y ∷ xs)

    -- These questions, and no other call of it, led the closure from f to after. A call that was not granted asked last what was answered
    -- Abort, and looked once for each.
    pub record Asked (told : ℕ) (f after : F) (granted : Bool) (once : Type 0) (before now : ℕ) : Type 0 where
      pub asked : List (ℕ × WaitAction)
      pub asks : Asks told asked
      pub ends : granted ≡ false → EndsInAbort asked
      pub looks : granted ≡ false → once → now ≡ before + length asked
      pub led : FoldsTo {P = F} {A = ℕ × WaitAction} (λ p x q. AskedOnce g shown p x.0 x.1 q) f asked after

    -- so a call that had looked so often by itself before; one that was granted then asked nothing
    abbrev pub AskedAfter : ℕ → F → F → Bool → Type 0 → ℕ → ℕ → Type 0
    AskedAfter looks f after granted once before now =
        ((granted ≡ true) × (f ≡ after))
        ⊎ ((told : ℕ) × (stood : ℕ) × refuses told × (once → stood ≡ before + looks) × Asked told f after granted once stood now)

-- What leads from f to after is one call of the wake closure, of the word of this object at this index.
pub record WokeOnce {F X : Type 0} (g : Mut F (Bor X × Unit {0}) (Unit {0})) (IsOf : X → Type 0) (f after : F) : Type 0 where
  pub word : X
  pub of : IsOf word
  pub called : CalledAt g f word tt after

-- What the wake closure promises of a call holds, of the word that is meant.
pub record HasWokenOf {F X : Type 0} (g : Shared F (Bor X × Unit {0}) (Unit {0})) (IsOf : X → Type 0) (wake : F) : Type 0 where
  pub word : X
  pub of : IsOf word
  pub says : FnReturnsAt g wake word tt
