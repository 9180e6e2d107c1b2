-- The lines of a table are read one after the other.
use Rattle.std.proofs.Common.{◌≡◌, ◌++◌, ℕ, List, [], ◌∷◌, map, Ok, refl}
use Rattle.std.proofs.lemmas.List.{map-append}
use Rattle.text_own.specs.Table.{first_value, words_from}

pub map_more : {A B : Type 0} (f : A → B) (xs : List A) (x : A) → map f (xs ++ x ∷ []) ≡ map f xs ++ f x ∷ []
map_more f xs x = map-append f xs (x ∷ [])

-- a word is named
pub words_more : (names : List (List ℕ)) (opening : List ℕ) (words : List (List ℕ)) (name value : List ℕ) (after rest : List (List ℕ)) (n : ℕ) → words ≡ name ∷ after → after ≡ value ∷ rest → first_value names name value ≡ Ok n →
    words_from names opening words ≡ words_from (names ++ name ∷ []) (opening ++ n ∷ []) rest
words_more names opening words name value after rest n is more told = rw (is, more, told) refl
