-- What the passes of a reader-writer lock count together, and what that says of the lock's word.
use Rattle.std.specs.Prelude.{◌≡◌, ℕ, zero, suc, ◌+◌, ◌*◌, ◌-◌, ◌^◌, ◌<◌, Bool, true, cond}
use Rattle.running_passes.specs.Tallies.{IsTally}
use Rattle.std.proofs.Common.{refl, arith}
use Rattle.std.proofs.lemmas.Bool.{eqb-true, eqb-false}
use Rattle.std.proofs.lemmas.Bool.Decides.{nat_tests}
use Rattle.running_rw_hold.specs.declared.held.Held.{Held}
use Rattle.running_rw_hold.specs.declared.held.Held.TheVariants.{Free, Reading, Writing, Torn}

-- a test that tells whether two are the same
pub record TellsSame {X : Type 0} (same : X → X → Bool) : Type 0 where
  pub equal : (x y : X) → same x y ≡ true → x ≡ y
  pub self : (x : X) → same x x ≡ true

module _ {X : Type 0} where
  -- so many read holds and one more, where they know the same
  abbrev pub readers_if : Bool → ℕ → X → Held X
  readers_if agree n x = cond agree (Reading n x) Torn

  abbrev pub both_held : (X → X → Bool) → Held X → Held X → Held X
  both_held same Free u = u
  both_held same (Reading n x) Free = Reading n x
  both_held same (Reading n x) (Reading m y) = readers_if (same x y) (n + m + 1) x
  both_held same (Reading n x) (Writing y z) = Torn
  both_held same (Reading n x) Torn = Torn
  both_held same (Writing x y) Free = Writing x y
  both_held same (Writing x y) (Reading n z) = Torn
  both_held same (Writing x y) (Writing z v) = Torn
  both_held same (Writing x y) Torn = Torn
  both_held same Torn u = Torn

  -- how many read holds stand; where more stands than may, one of each kind
  abbrev pub read_holds : Held X → ℕ
  read_holds Free = 0
  read_holds (Reading n x) = n + 1
  read_holds (Writing x y) = 0
  read_holds Torn = 1

  -- how many write holds stand
  abbrev pub write_holds : Held X → ℕ
  write_holds Free = 0
  write_holds (Reading n x) = 0
  write_holds (Writing x y) = 1
  write_holds Torn = 1

  -- the holds are no more than may stand, and know what is kept
  abbrev pub Knows : X → Held X → Type 0
  Knows kept Free = Unit {0}
  Knows kept (Reading n x) = x ≡ kept
  Knows kept (Writing x y) = x ≡ kept
  Knows kept Torn = ⊥

  -- one read hold more, and one less
  abbrev pub reader_in : (X → X → Bool) → X → Held X → Held X
  reader_in same kept t = both_held same (Reading 0 kept) t

  abbrev pub reader_out : Held X → Held X
  reader_out Free = Free
  reader_out (Reading zero x) = Free
  reader_out (Reading (suc n) x) = Reading n x
  reader_out (Writing x y) = Writing x y
  reader_out Torn = Torn

  -- The word is the number of read holds, which is 2 ^ 64 - 2 at most, or 2 ^ 64 - 1 with a write hold, beside which no hold stands.
  pub record Locks (word : ℕ) (kept : X) (t : Held X) : Type 0 where
    pub word_is : word ≡ read_holds t + write_holds t * (2 ^ 64 - 1)
    pub room : read_holds t < 2 ^ 64 - 1
    pub knows : Knows kept t

-- What they count adds up.

abbrev pub same_nothing : Unit {0} → Unit {0} → Bool
same_nothing x y = true

pub tells_same_nothing : TellsSame same_nothing
tells_same_nothing = record { equal = λ x y is. refl; self = λ x. refl }

module _ {X : Type 0} (same : X → X → Bool) (tells : TellsSame same) where
  swap : (t u : Held X) → both_held same t u ≡ both_held same u t
  swap t u = grind (arith, nat_tests, eqb-true, eqb-false)

  group : (t u v : Held X) → both_held same (both_held same t u) v ≡ both_held same t (both_held same u v)
  group t u v = grind (arith, nat_tests, eqb-true, eqb-false)

  pub held_adds_up : IsTally Free (both_held same) (λ _. Free)
  held_adds_up = record { unit = λ t. refl; swap = swap; group = group; copy = λ t. refl }
