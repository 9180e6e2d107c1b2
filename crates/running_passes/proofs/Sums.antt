-- Sums of the tallies of all passes, under each kind of step.
use Rattle.running_passes.proofs.Names.{◌≡◌, ℕ, zero, suc, List, [], ◌∷◌, ◌++◌, set, sym, refl, ap, ◌∙◌, arith, some, some-injective, some-ne-none, get_elem?, View, IsTally, IsWhole, weight, total, Each, IsShared, part_of, IsBlank, sum_of, nat_tests, eqb-true, eqb-false}
use Rattle.running_passes.proofs.Parts.{within_total, each_so, weight_nothing, whole_of_all}

module _ {T : Type 0} (none : T) (add : T → T → T) where
  -- the sum of all but one
  abbrev pub others : List (View T) → ℕ → T
  others [] id = none
  others (x ∷ xs) zero = sum_of none add xs
  others (x ∷ xs) (suc id) = add x.tally (others xs id)

  module _ (core : T → T) (laws : IsTally none add core) where
    swap_in : (a b c : T) → add a (add b c) ≡ add b (add a c)
    swap_in a b c = sym (laws.group a b c) ∙ ap (λ (t : T). add t c) (laws.swap a b) ∙ laws.group b a c

    pub sum_at : (views : List (View T)) (id : ℕ) (v : View T) → get_elem? views id ≡ some v → sum_of none add views ≡ add v.tally (others views id)
    sum_at (x ∷ xs) (suc id) v at = ap (add x.tally) (sum_at xs id v at) ∙ swap_in x.tally v.tally (others xs id)
    sum_at views id v h1 = grind (arith, nat_tests, eqb-true, eqb-false, swap_in)

    pub sum_set : (views : List (View T)) (id : ℕ) (v w : View T) → get_elem? views id ≡ some v → sum_of none add (set views id w) ≡ add w.tally (others views id)
    sum_set (x ∷ xs) (suc id) v w at = ap (add x.tally) (sum_set xs id v w at) ∙ swap_in x.tally w.tally (others xs id)
    sum_set views id v w h1 = grind (arith, nat_tests, eqb-true, eqb-false, swap_in)

    sum_snoc : (views : List (View T)) (w : View T) → sum_of none add (views ++ w ∷ []) ≡ add w.tally (sum_of none add views)
    sum_snoc [] w = refl
    sum_snoc (x ∷ xs) w = ap (add x.tally) (sum_snoc xs w) ∙ swap_in x.tally w.tally (sum_of none add xs)

    -- what a copy keeps adds nothing
    pub sum_split : (views : List (View T)) (id : ℕ) (v left right : View T) → get_elem? views id ≡ some v → left.tally ≡ v.tally → right.tally ≡ core v.tally
        → sum_of none add (set views id left ++ right ∷ []) ≡ sum_of none add views
    sum_split views id v left right at first second = let rest : T = others views id in
        sum_snoc (set views id left) right ∙ ap (add right.tally) (sum_set views id v left at) ∙ ap (λ (p : T × T). add p.0 (add p.1 rest)) (λ i. (second i, first i))
        ∙ sym (laws.group (core v.tally) v.tally rest) ∙ ap (λ (t : T). add t rest) (laws.copy v.tally) ∙ sym (sum_at views id v at)

    pub sum_join : (views : List (View T)) (id other : ℕ) (v w both spent : View T) → get_elem? views id ≡ some v → ¬ (other ≡ id) → get_elem? (set views id both) other ≡ some w
        → both.tally ≡ add v.tally w.tally → spent.tally ≡ none → sum_of none add (set (set views id both) other spent) ≡ sum_of none add views
    sum_join [] id other v w both spent at apart there sum blank = absurd (some-ne-none v (sym at))
    sum_join (x ∷ xs) zero zero v w both spent at apart there sum blank = absurd (apart refl)
    sum_join (x ∷ xs) zero (suc j) v w both spent at apart there sum blank = let rest : T = others xs j in
        ap (add both.tally) (sum_set xs j w spent there ∙ ap (λ (t : T). add t rest) blank ∙ laws.unit rest) ∙ ap (λ (t : T). add t rest) sum ∙ laws.group v.tally w.tally rest
        ∙ ap (add v.tally) (sym (sum_at xs j w there)) ∙ ap (λ (u : View T). add u.tally (sum_of none add xs)) (sym (some-injective x v at))
    sum_join (x ∷ xs) (suc i) zero v w both spent at apart there sum blank = let rest : T = others xs i in
        ap (λ (t : T). add t (sum_of none add (set xs i both))) blank ∙ laws.unit (sum_of none add (set xs i both)) ∙ sum_set xs i v both at ∙ ap (λ (t : T). add t rest) sum
        ∙ ap (λ (t : T). add t rest) (laws.swap v.tally w.tally) ∙ laws.group w.tally v.tally rest
        ∙ ap (add w.tally) (sym (sum_at xs i v at)) ∙ ap (λ (u : View T). add u.tally (sum_of none add xs)) (sym (some-injective x w there))
    sum_join (x ∷ xs) (suc i) (suc j) v w both spent at apart there sum blank = ap (add x.tally) (sum_join xs i j v w both spent at (λ e. apart (ap suc e)) there sum blank)

    -- two that are apart are in the sum
    pub sum_of_two : (views : List (View T)) (i j : ℕ) (v w : View T) → get_elem? views i ≡ some v → get_elem? views j ≡ some w → ¬ (i ≡ j)
        → (rest : T) × (sum_of none add views ≡ add v.tally (add w.tally rest))
    sum_of_two [] i j v w here there apart = absurd (some-ne-none v (sym here))
    sum_of_two (x ∷ xs) zero zero v w here there apart = absurd (apart refl)
    sum_of_two (x ∷ xs) zero (suc j) v w here there apart = (others xs j, ap (λ (u : View T). add u.tally (sum_of none add xs)) (some-injective x v here) ∙ ap (add v.tally) (sum_at xs j w there))
    sum_of_two (x ∷ xs) (suc i) zero v w here there apart = (others xs i, ap (λ (u : View T). add u.tally (sum_of none add xs)) (some-injective x w there) ∙ ap (add w.tally) (sum_at xs i v here) ∙ swap_in w.tally v.tally (others xs i))
    sum_of_two (x ∷ xs) (suc i) (suc j) v w here there apart = let r = sum_of_two xs i j v w here there (λ e. apart (ap suc e)) in
        (add x.tally r.0, ap (add x.tally) r.1 ∙ swap_in x.tally v.tally (add w.tally r.0) ∙ ap (add v.tally) (swap_in x.tally w.tally r.0))

    none_adds : (g : View T → ℕ) (views : List (View T)) → Each (λ u. g u ≡ 0 → u.tally ≡ none) views → total g views ≡ 0 → sum_of none add views ≡ none
    none_adds g [] so light = refl
    none_adds g (x ∷ xs) so light = let rest = none_adds g xs so.1 (omega arith) in ap (λ (p : T × T). add p.0 p.1) (λ i. (so.0 (omega arith) i, rest i)) ∙ laws.unit none

    one_adds : (g : View T → ℕ) (views : List (View T)) (id : ℕ) (v : View T) → get_elem? views id ≡ some v → Each (λ u. g u ≡ 0 → u.tally ≡ none) views → total g views ≡ g v → others views id ≡ none
    one_adds g (x ∷ xs) (suc id) v at so one = let some_there = within_total g xs id v at in let rest = one_adds g xs id v at so.1 (omega arith) in
        ap (λ (p : T × T). add p.0 p.1) (λ i. (so.0 (omega arith) i, rest i)) ∙ laws.unit none
    one_adds g views id v h1 h2 h3 = grind (arith, nat_tests, eqb-true, eqb-false, none_adds, within_total)

    -- where a whole pass is left, the others add nothing
    pub alone : (views : List (View T)) (id : ℕ) (v : View T) → get_elem? views id ≡ some v → IsWhole v.part → IsShared part_of (IsBlank none) views → others views id ≡ none
    alone views id v at whole s = let j : ℕ = s.finest in one_adds (λ u. weight j (part_of u)) views id v at
        (each_so (λ u. (part_of u).share ≡ 0 → IsBlank none u) (λ u. weight j (part_of u) ≡ 0 → u.tally ≡ none) views (λ u blank light. (blank (weight_nothing (part_of u) j light)).0) s.blank)
        (whole_of_all views id v at whole s)
