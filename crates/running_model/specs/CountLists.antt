-- A count for each place of a list, added up place by place.
use Rattle.std.specs.Prelude.{slice_index, ◌≡◌, ◌≢◌, ℕ, zero, suc, ◌+◌, List, [], ◌∷◌}
use Rattle.std.proofs.Common.{refl, ap, add_assoc, add_comm, arith}
use Rattle.std.proofs.lemmas.Bool.{eqb-true, eqb-false}
use Rattle.std.proofs.lemmas.Bool.Decides.{nat_tests}

-- the count for this place
abbrev pub count_at : ℕ → List ℕ → ℕ
count_at place counts = slice_index counts place

-- one more in this place
abbrev pub one_more : ℕ → List ℕ → List ℕ
one_more zero [] = 1 ∷ []
one_more zero (x ∷ xs) = (x + 1) ∷ xs
one_more (suc place) [] = 0 ∷ one_more place []
one_more (suc place) (x ∷ xs) = x ∷ one_more place xs

-- two lists of counts, added up place by place
abbrev pub both_counts : List ℕ → List ℕ → List ℕ
both_counts [] ys = ys
both_counts (x ∷ xs) [] = x ∷ xs
both_counts (x ∷ xs) (y ∷ ys) = (x + y) ∷ both_counts xs ys

pub counts_swap : (xs ys : List ℕ) → both_counts xs ys ≡ both_counts ys xs
counts_swap [] [] = refl
counts_swap [] (y ∷ ys) = refl
counts_swap (x ∷ xs) [] = refl
counts_swap (x ∷ xs) (y ∷ ys) = λ i. add_comm x y i ∷ counts_swap xs ys i

pub counts_group : (xs ys zs : List ℕ) → both_counts (both_counts xs ys) zs ≡ both_counts xs (both_counts ys zs)
counts_group (x ∷ xs) (y ∷ ys) (z ∷ zs) = λ i. add_assoc x y z i ∷ counts_group xs ys zs i
counts_group xs ys zs = grind (arith, nat_tests, eqb-true, eqb-false, add_assoc)

-- What a count is where lists of counts are added up, and where one more is counted.

pub in_both : (place : ℕ) (xs ys : List ℕ) → count_at place (both_counts xs ys) ≡ count_at place xs + count_at place ys
in_both zero (x ∷ xs) (y ∷ ys) = refl
in_both (suc place) (x ∷ xs) (y ∷ ys) = in_both place xs ys
in_both place xs ys = omega arith

pub more_in_both : (place : ℕ) (xs ys : List ℕ) → both_counts (one_more place xs) ys ≡ one_more place (both_counts xs ys)
more_in_both (suc place) [] (y ∷ ys) = λ i. (let e : 0 + y ≡ y = omega arith in e) i ∷ more_in_both place [] ys i
more_in_both (suc place) (x ∷ xs) (y ∷ ys) = λ i. (x + y) ∷ more_in_both place xs ys i
more_in_both place xs ys = grind (arith, nat_tests, eqb-true, eqb-false)

pub more_here : (place : ℕ) (xs : List ℕ) → count_at place (one_more place xs) ≡ count_at place xs + 1
more_here (suc place) [] = more_here place []
more_here (suc place) (x ∷ xs) = more_here place xs
more_here place xs = grind (arith, nat_tests, eqb-true, eqb-false)

pub more_elsewhere : (place other : ℕ) (xs : List ℕ) → other ≢ place → count_at other (one_more place xs) ≡ count_at other xs
more_elsewhere (suc place) (suc other) [] apart = more_elsewhere place other [] (λ e. apart (ap suc e))
more_elsewhere (suc place) (suc other) (x ∷ xs) apart = more_elsewhere place other xs (λ e. apart (ap suc e))
more_elsewhere place other xs h1 = grind (arith, nat_tests, eqb-true, eqb-false)
