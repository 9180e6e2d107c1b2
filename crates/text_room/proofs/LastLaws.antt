-- The last lines are printed object by object.
use Rattle.text_room.proofs.Names.{◌≡◌, ℕ, zero, suc, ◌+◌, ◌≤◌, List, [], ◌∷◌, ◌++◌, length, map, drop, slice_get, Some, refl, sym, ap, subst, ◌∙◌, append_assoc, arith, Arithmetic, Object, Numerals, RoomEvent, events_of, last_line, codes}
use Rattle.text_room.specs.Output.{last_lines}

pub drop_there : {A : Type 0} (xs : List A) (k : ℕ) (x : A) → slice_get xs k ≡ Some x → drop k xs ≡ x ∷ drop (suc k) xs
drop_there [] k x got = absurd cc
drop_there {A} (y ∷ xs) zero x got = let is : y ≡ x = cc in ap (λ (v : A). v ∷ xs) is
drop_there (y ∷ xs) (suc k) x got = drop_there xs k x got

drop_beyond : {A : Type 0} (xs : List A) (k : ℕ) → length xs ≤ k → drop k xs ≡ []
drop_beyond [] zero beyond = refl
drop_beyond [] (suc k) beyond = refl
drop_beyond (x ∷ xs) zero beyond = absurd (omega (arith, beyond))
drop_beyond (x ∷ xs) (suc k) beyond = drop_beyond xs k (omega (arith, beyond))

pub got_mapped : {A B : Type 0} (f : A → B) (xs : List A) (k : ℕ) (x : A) → slice_get xs k ≡ Some x → slice_get (map f xs) k ≡ Some (f x)
got_mapped f [] k x got = absurd cc
got_mapped f (y ∷ xs) zero x got = let is : y ≡ x = cc in ap (λ v. Some (f v)) is
got_mapped f (y ∷ xs) (suc k) x got = got_mapped f xs k x got

pub length_mapped : {A B : Type 0} (f : A → B) (xs : List A) → length (map f xs) ≡ length xs
length_mapped f [] = refl
length_mapped f (x ∷ xs) = ap suc (length_mapped f xs)

module _ {T : Type 0} (z : Arithmetic T) (numerals : Numerals T) (names : List (List ℕ)) (objects : List (Object T)) (past : List (RoomEvent T)) where
  -- so many of the last lines were printed, and the others are still to come
  abbrev pub PrintsLasts : ℕ → List ℕ → List ℕ → Type 0
  PrintsLasts k old new = new ++ last_lines z numerals k (drop k names) (drop k objects) past ≡ old ++ last_lines z numerals 0 names objects past

  pub prints_last : (k : ℕ) (old new new' name : List ℕ) (o : Object T) → slice_get names k ≡ Some name → slice_get objects k ≡ Some o → PrintsLasts k old new → new' ≡ (new ++ name) ++ (codes " " ++ last_line z numerals o (events_of k past)) →
      PrintsLasts (suc k) old new'
  prints_last k old new new' name o named there before is =
      let others : List ℕ = last_lines z numerals (suc k) (drop (suc k) names) (drop (suc k) objects) past in
      let line : List ℕ = last_line z numerals o (events_of k past) in
      let here : last_lines z numerals k (drop k names) (drop k objects) past ≡ name ++ (codes " " ++ (line ++ others)) = rw (drop_there names k name named, drop_there objects k o there) refl in
      ap (λ (l : List ℕ). l ++ others) is ∙ append_assoc (new ++ name) (codes " " ++ line) others ∙ append_assoc new name ((codes " " ++ line) ++ others)
      ∙ ap (λ (l : List ℕ). new ++ (name ++ l)) (append_assoc (codes " ") line others) ∙ ap (λ (l : List ℕ). new ++ l) (sym here) ∙ before

  -- behind the last object nothing is printed
  none_beyond : (k j : ℕ) → length objects ≤ j → last_lines z numerals k (drop j names) (drop j objects) past ≡ []
  none_beyond k j beyond = rw (drop_beyond objects j beyond) (none_of (drop j names))
    where
      none_of : (left : List (List ℕ)) → last_lines z numerals k left [] past ≡ []
      none_of [] = refl
      none_of (name ∷ left) = refl

  pub prints_no_last : (k : ℕ) (old new : List ℕ) → length objects ≤ k → PrintsLasts k old new → PrintsLasts (k + 1) old new
  prints_no_last k old new beyond before =
      ap (λ (l : List ℕ). new ++ l) (none_beyond (k + 1) (k + 1) (omega (arith, beyond)) ∙ sym (none_beyond k k beyond)) ∙ before

  pub prints_all : (k : ℕ) (old new : List ℕ) → length names ≤ k → PrintsLasts k old new → new ++ [] ≡ old ++ last_lines z numerals 0 names objects past
  prints_all k old new beyond before =
      let ended : last_lines z numerals k (drop k names) (drop k objects) past ≡ [] = rw (drop_beyond names k beyond) refl in
      ap (λ (l : List ℕ). new ++ l) (sym ended) ∙ before

  -- one more, by what the room has there
  pub prints_one : (k : ℕ) (old new new' name : List ℕ) → slice_get names k ≡ Some name → (o : Object T) × (slice_get objects k ≡ Some o) × (new' ≡ (new ++ name) ++ (codes " " ++ last_line z numerals o (events_of k past))) → PrintsLasts k old new → PrintsLasts (k + 1) old new'
  prints_one k old new new' name named there before =
      let next : suc k ≡ k + 1 = omega arith in
      subst (λ (j : ℕ). PrintsLasts j old new') next (prints_last k old new new' name there.0 named there.1 before there.2)
