-- The lines that name objects are read one after the other.
use Rattle.text_room.proofs.Names.{◌≡◌, ℕ, ◌+◌, true, false, List, [], ◌∷◌, ◌++◌, map, Ok, Err, refl, ap, Object, words_of, Numerals, let_of, bytes_eq, codes, LineFault}
use Rattle.text_room.specs.Walk.{opened}
unfoldable use Rattle.text_room.specs.Walk.{opened_from}

pub map_more : {A B : Type 0} (f : A → B) (xs : List A) (x : A) → map f (xs ++ x ∷ []) ≡ map f xs ++ f x ∷ []
map_more f [] x = refl
map_more {A} {B} f (y ∷ xs) x = ap (λ (l : List B). f y ∷ l) (map_more f xs x)

module _ {T : Type 0} (numerals : Numerals T) (parties : ℕ) (names : List (List ℕ)) (objects : List (Object T)) (line : ℕ) where
  -- no line is left
  pub opens_none_left : (lines : List (List ℕ)) → lines ≡ [] → opened_from numerals parties names objects line lines ≡ Ok (record { parties = parties; names = names; objects = objects; line = line; lines = lines })
  unfolding opened_from
  opens_none_left lines none = rw none refl

  -- an empty line
  pub opens_empty : (lines : List (List ℕ)) (next : List ℕ) (rest : List (List ℕ)) → lines ≡ next ∷ rest → words_of next ≡ [] → opened_from numerals parties names objects line lines ≡ opened_from numerals parties names objects (line + 1) rest
  unfolding opened_from
  opens_empty lines next rest same empty = rw (same, empty) refl

  -- a line that names an object, or has a fault
  pub opens_more : (lines : List (List ℕ)) (next : List ℕ) (rest : List (List ℕ)) (word : List ℕ) (words : List (List ℕ)) (name : List ℕ) (object : Object T) → lines ≡ next ∷ rest → words_of next ≡ word ∷ words → bytes_eq word (codes "let") ≡ true →
      let_of numerals names words ≡ Ok (name, object) → opened_from numerals parties names objects line lines ≡ opened_from numerals parties (names ++ name ∷ []) (objects ++ object ∷ []) (line + 1) rest
  unfolding opened_from
  opens_more lines next rest word words name object same words_is is told = rw (same, words_is, is, told) refl

  pub opens_wrongly : (lines : List (List ℕ)) (next : List ℕ) (rest : List (List ℕ)) (word : List ℕ) (words : List (List ℕ)) (fault : LineFault) → lines ≡ next ∷ rest → words_of next ≡ word ∷ words → bytes_eq word (codes "let") ≡ true →
      let_of numerals names words ≡ Err fault → opened_from numerals parties names objects line lines ≡ Err (record { line = line + 1; fault = fault })
  unfolding opened_from
  opens_wrongly lines next rest word words fault same words_is is told = rw (same, words_is, is, told) refl

  -- another line
  pub opens_no_more : (lines : List (List ℕ)) (next : List ℕ) (rest : List (List ℕ)) (word : List ℕ) (words : List (List ℕ)) → lines ≡ next ∷ rest → words_of next ≡ word ∷ words → bytes_eq word (codes "let") ≡ false →
      opened_from numerals parties names objects line lines ≡ Ok (record { parties = parties; names = names; objects = objects; line = line; lines = lines })
  unfolding opened_from
  opens_no_more lines next rest word words same words_is is = rw (same, words_is, is) refl
