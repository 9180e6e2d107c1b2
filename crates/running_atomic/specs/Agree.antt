-- What two know of the same places: both know the same there, or they are torn.
use Rattle.std.specs.Prelude.{◌≡◌, ◌≢◌, Bool, true, false, cond, List, [], ◌∷◌}
use Rattle.running_atomic.specs.Names.{refl, ap, ⊎_elim, Place, arith, nat_tests, eqb-true, eqb-false}
use Rattle.running_atomic.specs.Alike.{Tells}
use Rattle.running_atomic.specs.declared.history.Place.TheVariants.{Unknown, Is, Torn}

module _ {X : Type 0} where
  abbrev pub met : (X → X → Bool) → Place X → Place X → Place X
  met same Unknown k = k
  met same (Is x) Unknown = Is x
  met same (Is x) (Is y) = cond (same x y) (Is x) Torn
  met same (Is x) Torn = Torn
  met same Torn k = Torn

  abbrev pub merge : (X → X → Bool) → List (Place X) → List (Place X) → List (Place X)
  merge same [] ys = ys
  merge same (x ∷ xs) [] = x ∷ xs
  merge same (x ∷ xs) (y ∷ ys) = met same x y ∷ merge same xs ys

  module _ (same : X → X → Bool) (tells : Tells same) where
    pub met_is : (x : X) → met same (Is x) (Is x) ≡ Is x
    met_is x = ⊎_elim (λ (t : (same x x ≡ true) × (x ≡ x)). ap (λ b. cond b (Is x) Torn) t.0) (λ (t : (same x x ≡ false) × (x ≢ x)). absurd (t.1 refl)) (tells x x)

    pub met_else : (x y : X) → x ≢ y → met same (Is x) (Is y) ≡ Torn
    met_else x y not = ⊎_elim (λ (t : (same x y ≡ true) × (x ≡ y)). absurd (not t.1)) (λ (t : (same x y ≡ false) × (x ≢ y)). ap (λ b. cond b (Is x) Torn) t.0) (tells x y)

    pub by_same : (P : Type 0) (x y : X) → (x ≡ y → P) → (x ≢ y → P) → P
    by_same P x y alike apart = ⊎_elim (λ (t : (same x y ≡ true) × (x ≡ y)). alike t.1) (λ (t : (same x y ≡ false) × (x ≢ y)). apart t.1) (tells x y)

    pub met_idem : (a : Place X) → met same a a ≡ a
    met_idem a = grind (arith, nat_tests, eqb-true, eqb-false)

    met_comm : (a b : Place X) → met same a b ≡ met same b a
    met_comm a b = grind (arith, nat_tests, eqb-true, eqb-false)

    met_assoc : (a b c : Place X) → met same (met same a b) c ≡ met same a (met same b c)
    met_assoc a b c = grind (arith, nat_tests, eqb-true, eqb-false)

    pub merge_idem : (xs : List (Place X)) → merge same xs xs ≡ xs
    merge_idem [] = refl
    merge_idem (x ∷ xs) = λ i. met_idem x i ∷ merge_idem xs i

    pub merge_comm : (xs ys : List (Place X)) → merge same xs ys ≡ merge same ys xs
    merge_comm [] [] = refl
    merge_comm [] (y ∷ ys) = refl
    merge_comm (x ∷ xs) [] = refl
    merge_comm (x ∷ xs) (y ∷ ys) = λ i. met_comm x y i ∷ merge_comm xs ys i

    pub merge_assoc : (xs ys zs : List (Place X)) → merge same (merge same xs ys) zs ≡ merge same xs (merge same ys zs)
    merge_assoc [] ys zs = refl
    merge_assoc (x ∷ xs) [] zs = refl
    merge_assoc (x ∷ xs) (y ∷ ys) [] = refl
    merge_assoc (x ∷ xs) (y ∷ ys) (z ∷ zs) = λ i. met_assoc x y z i ∷ merge_assoc xs ys zs i
