-- Two are the same where the numbers that they are written as are the same.
use Rattle.std.specs.Prelude.{◌≡◌, ◌≢◌, ℕ, Bool, true, false, List, [], ◌∷◌, ◌⊎◌, eqb, ◌&&◌}
use Rattle.running_atomic.specs.Names.{refl, zero, suc, inl, inr, arith, nat_tests, eqb-true, eqb-false}

-- a test tells whether two are the same
abbrev pub Tells : {X : Type 0} → (X → X → Bool) → Type 0
Tells {X} same = (x y : X) → ((same x y ≡ true) × (x ≡ y)) ⊎ ((same x y ≡ false) × (x ≢ y))

abbrev pub same_numbers : List ℕ → List ℕ → Bool
same_numbers [] [] = true
same_numbers [] (y ∷ ys) = false
same_numbers (x ∷ xs) [] = false
same_numbers (x ∷ xs) (y ∷ ys) = eqb x y && same_numbers xs ys

abbrev pub number_at : List ℕ → ℕ → ℕ
number_at [] i = 0
number_at (n ∷ ns) zero = n
number_at (n ∷ ns) (suc i) = number_at ns i

tell_on : (x y : ℕ) (xs ys : List ℕ) → ((same_numbers xs ys ≡ true) × (xs ≡ ys)) ⊎ ((same_numbers xs ys ≡ false) × (xs ≢ ys)) →
    ((same_numbers (x ∷ xs) (y ∷ ys) ≡ true) × (x ∷ xs ≡ y ∷ ys)) ⊎ ((same_numbers (x ∷ xs) (y ∷ ys) ≡ false) × (x ∷ xs ≢ y ∷ ys))
tell_on x y xs ys h1 = grind (arith, nat_tests, eqb-true, eqb-false)

numbers_tell : Tells same_numbers
numbers_tell [] [] = inl (refl, refl)
numbers_tell [] (y ∷ ys) = inr (refl, λ is. cc)
numbers_tell (x ∷ xs) [] = inr (refl, λ is. cc)
numbers_tell (x ∷ xs) (y ∷ ys) = tell_on x y xs ys (numbers_tell xs ys)

module _ {X : Type 0} where
  abbrev pub same_by : (X → List ℕ) → X → X → Bool
  same_by numbers x y = same_numbers (numbers x) (numbers y)

  -- where the numbers give it back
  pub told_by : (numbers : X → List ℕ) (back : List ℕ → X) → ((x : X) → back (numbers x) ≡ x) → Tells (same_by numbers)
  told_by numbers back h1 = grind (arith, nat_tests, eqb-true, eqb-false, numbers_tell)
