-- A name is found among names as they stand in a text.
use Rattle.std.proofs.Common.{◌≡◌, ℕ, suc, Bool, cond, not, List, [], ◌∷◌, length, map, ◌+◌, refl, ap}
use Rattle.std.specs.List.{position, position_or_len}
use Rattle.std.specs.Borrow.{Bor}
use Rattle.text_lines.specs.Names.{bytes_eq}
use Rattle.text_lines.specs.Several.{place_of}

place_mapped : {A B : Type 0} (f : A → B) (p : B → Bool) (xs : List A) → position_or_len p (map f xs) ≡ position_or_len (λ x. p (f x)) xs
place_mapped f p [] = refl
place_mapped f p (x ∷ xs) = ap (λ n. cond (not (p (f x))) (1 + n) 0) (place_mapped f p xs)

length_mapped : {A B : Type 0} (f : A → B) (xs : List A) → length (map f xs) ≡ length xs
length_mapped f [] = refl
length_mapped f (x ∷ xs) = ap suc (length_mapped f xs)

pub place_in_text : (names : List (Bor (List ℕ))) (name : List ℕ) → position (λ other. bytes_eq other.now name) names ≡ place_of (map (λ other. other.now) names) name
place_in_text names name =
    rw (place_mapped (λ (other : Bor (List ℕ)). other.now) (λ other. bytes_eq other name) names, length_mapped (λ (other : Bor (List ℕ)). other.now) names) refl
