-- Something is made of each of a list, one after the other.
use Rattle.text_trace.proofs.Names.{◌≡◌, ℕ, suc, ◌+◌, ◌<◌, ◌≤◌, List, [], ◌∷◌, ◌++◌, map, length, drop, get_or, refl, sym, ◌∙◌, ap, append_assoc, append-nil, at_drop_more, drop_all, arith, for_each}

pub of_mapped : {A B C : Type 0} (f : C → A) (made : ℕ → A → List B) (k : ℕ) (xs : List C) → for_each made k (map f xs) ≡ for_each (λ j x. made j (f x)) k xs
of_mapped f made k [] = refl
of_mapped {A} {B} f made k (x ∷ xs) = ap (λ (l : List B). made k (f x) ++ l) (of_mapped f made (suc k) xs)

module _ {A B : Type 0} (made : ℕ → A → List B) (xs : List A) where
  -- that of so many is there, and the others are still to come
  abbrev pub HasMade : ℕ → List B → List B → Type 0
  HasMade k old new = new ++ for_each made k (drop k xs) ≡ old ++ for_each made 0 xs

  pub made_more : (k : ℕ) (x d : A) (old new new' : List B) → k < length xs → x ≡ get_or xs k d → HasMade k old new → new' ≡ new ++ made k x → HasMade (k + 1) old new'
  made_more k x d old new new' below item before is =
      let next : suc k ≡ k + 1 = omega arith in
      let others : List B = for_each made (k + 1) (drop (k + 1) xs) in
      let here : for_each made k (drop k xs) ≡ made k x ++ others =
      at_drop_more (λ (l : List A). for_each made k l) xs k d below ∙ ap (λ (y : A). made k y ++ for_each made (suc k) (drop (k + 1) xs)) (sym item)
      ∙ ap (λ (j : ℕ). made k x ++ for_each made j (drop (k + 1) xs)) next in
      ap (λ (l : List B). l ++ others) is ∙ append_assoc new (made k x) others ∙ ap (λ (l : List B). new ++ l) (sym here) ∙ before

  pub made_all : (k : ℕ) (old new : List B) → length xs ≤ k → HasMade k old new → new ≡ old ++ for_each made 0 xs
  made_all k old new beyond before = sym (append-nil new) ∙ ap (λ (l : List A). new ++ for_each made k l) (sym (drop_all k xs beyond)) ∙ before
