-- What is made of each of a list, in order, by its place too.
use Rattle.std.specs.Prelude.{ℕ, suc, List, [], ◌∷◌, ◌++◌}

-- from this place on
abbrev pub for_each : {A B : Type 0} → (ℕ → A → List B) → ℕ → List A → List B
for_each made k [] = []
for_each made k (x ∷ xs) = made k x ++ for_each made (suc k) xs
