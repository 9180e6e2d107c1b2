-- The parts of all passes, and what they weigh, under each kind of step.
use Rattle.running_passes.proofs.Names.{◌≡◌, ℕ, zero, suc, ◌+◌, ◌-◌, ◌*◌, ◌^◌, ◌<◌, ◌≤◌, List, [], ◌∷◌, ◌++◌, set, sym, ap, ◌∙◌, subst, arith, pow-add, pow_pos, mul-pos, zero-mul, some, some-injective, some-ne-none, get_elem?, Part, whole, nothing, half, together, IsWhole, IsAgain, IsSamePart, weight, AddUp, total, Each, IsShared, nat_tests, eqb-true, eqb-false}
use Rattle.std.proofs.Math.Nat.{eq_of_mul-eq-mul_left, eq_of_mul-eq-mul_right}

module _ {V : Type 0} where
  -- sums

  pub total_set : (f : V → ℕ) (views : List V) (id : ℕ) (v w : V) → get_elem? views id ≡ some v → total f (set views id w) + f v ≡ total f views + f w
  total_set f (x ∷ xs) (suc id) v w at = let rest = total_set f xs id v w at in omega arith
  total_set f views id v w h1 = grind (arith, nat_tests, eqb-true, eqb-false)

  pub total_snoc : (f : V → ℕ) (views : List V) (w : V) → total f (views ++ w ∷ []) ≡ total f views + f w
  total_snoc f [] w = omega arith
  total_snoc f (x ∷ xs) w = let rest = total_snoc f xs w in omega arith

  -- under a step that changes it for no pass, under a split and under a join

  pub total_same : (f : V → ℕ) (views : List V) (id : ℕ) (v w : V) → get_elem? views id ≡ some v → f w ≡ f v → total f (set views id w) ≡ total f views
  total_same f views id v w at same = let moved = total_set f views id v w at in omega arith

  pub total_split : (f : V → ℕ) (views : List V) (id : ℕ) (v left right : V) → get_elem? views id ≡ some v → f left + f right ≡ f v → total f (set views id left ++ right ∷ []) ≡ total f views
  total_split f views id v left right at parts = let moved = total_set f views id v left at in let added = total_snoc f (set views id left) right in omega arith

  pub total_join : (f : V → ℕ) (views : List V) (id other : ℕ) (v w both spent : V) → get_elem? views id ≡ some v → get_elem? (set views id both) other ≡ some w → f both + f spent ≡ f v + f w
      → total f (set (set views id both) other spent) ≡ total f views
  total_join f views id other v w both spent at there sum = let moved = total_set f views id v both at in let left_out = total_set f (set views id both) other w spent there in omega arith

  -- none is more than the sum
  pub within_total : (f : V → ℕ) (views : List V) (id : ℕ) (v : V) → get_elem? views id ≡ some v → f v ≤ total f views
  within_total f (x ∷ xs) (suc id) v at = let rest = within_total f xs id v at in omega arith
  within_total f views id v h1 = grind (arith, nat_tests, eqb-true, eqb-false)

  -- facts of each

  pub each_set : (P : V → Type 0) (views : List V) (id : ℕ) (w : V) → Each P views → P w → Each P (set views id w)
  each_set P (x ∷ xs) (suc id) w all here = (all.0, each_set P xs id w all.1 here)
  each_set P views id w h1 h2 = grind (arith, nat_tests, eqb-true, eqb-false)

  pub each_snoc : (P : V → Type 0) (views : List V) (w : V) → Each P views → P w → Each P (views ++ w ∷ [])
  each_snoc P [] w all here = (here, tt)
  each_snoc P (x ∷ xs) w all here = (all.0, each_snoc P xs w all.1 here)

  pub each_at : (P : V → Type 0) (views : List V) (id : ℕ) (v : V) → get_elem? views id ≡ some v → Each P views → P v
  each_at P [] id v at all = absurd (some-ne-none v (sym at))
  each_at P (x ∷ xs) zero v at all = subst P (some-injective x v at) all.0
  each_at P (x ∷ xs) (suc id) v at all = each_at P xs id v at all.1

  pub each_so : (P Q : V → Type 0) (views : List V) → ((v : V) → P v → Q v) → Each P views → Each Q views
  each_so P Q [] so all = tt
  each_so P Q (x ∷ xs) so all = (so x all.0, each_so P Q xs so all.1)

-- weights

-- at a depth that is k below the part's own
at_depth : (n d j k : ℕ) → j ≡ d + k → n * 2 ^ (j - d) ≡ n * 2 ^ k
at_depth n d j k is = ap (λ (m : ℕ). n * 2 ^ m) (omega arith)

power_of_sum : (n i k : ℕ) → n * 2 ^ (i + k) ≡ n * (2 ^ i * 2 ^ k)
power_of_sum n i k = ap (λ (m : ℕ). n * m) (pow-add 2 i k)

-- the two halves weigh as much as the part
halves : (n d j : ℕ) → d + 1 ≤ j → n * 2 ^ (j - (d + 1)) + n * 2 ^ (j - (d + 1)) ≡ n * 2 ^ (j - d)
halves n d j deep = let k : ℕ = j - (d + 1) in let a = at_depth n d j (1 + k) (omega arith) in let b = power_of_sum n 1 k in omega arith

weight_half : (p : Part) (j : ℕ) → p.depth + 1 ≤ j → weight j (half p) + weight j (half p) ≡ weight j p
weight_half p = halves p.share p.depth

both_weigh : (m n d e j : ℕ) → d + e ≤ j → (m * 2 ^ e + n * 2 ^ d) * 2 ^ (j - (d + e)) ≡ m * 2 ^ (j - d) + n * 2 ^ (j - e)
both_weigh m n d e j deep = let k : ℕ = j - (d + e) in let a = at_depth m d j (e + k) (omega arith) in let b = at_depth n e j (d + k) (omega arith) in
    let c = power_of_sum m e k in let f = power_of_sum n d k in omega arith

weight_together : (p q : Part) (j : ℕ) → p.depth + q.depth ≤ j → weight j (together p q) ≡ weight j p + weight j q
weight_together p q = both_weigh p.share q.share p.depth q.depth

pub weight_nothing : (p : Part) (j : ℕ) → weight j p ≡ 0 → p.share ≡ 0
weight_nothing p j none = let n : ℕ = 2 ^ (j - p.depth) in eq_of_mul-eq-mul_right n (pow_pos (j - p.depth)) p.share 0 (none ∙ sym (zero-mul n))

-- a part is the whole exactly where it weighs as much
pub weight_whole : (p : Part) (j : ℕ) → p.depth ≤ j → IsWhole p → weight j p ≡ 2 ^ j
weight_whole p j deep is = let k : ℕ = j - p.depth in ap (λ (n : ℕ). n * 2 ^ k) is ∙ sym (pow-add 2 p.depth k) ∙ ap (λ (n : ℕ). 2 ^ n) (omega arith)

pub whole_weighs : (p : Part) (j : ℕ) → p.depth ≤ j → weight j p ≡ 2 ^ j → IsWhole p
whole_weighs p j h1 h2 = grind (arith, nat_tests, eqb-true, eqb-false, eq_of_mul-eq-mul_right, pow-add, pow_pos)

-- what `split` and `join` do to the weights
pub splits_weight : (p : Part) → AddUp p (half p) (half p)
splits_weight p = record { weighs = λ j deep first second. weight_half p j first }

pub joins_weight : (p q : Part) → AddUp (together p q) p q
joins_weight p q = record { weighs = λ j deep first second. sym (weight_together p q j deep) }

-- two parts m and n of depths i and j, each as much as half of q at depth d, are together as much as q
halves_are : (m i n j q d : ℕ) → m * 2 ^ (d + 1) ≡ q * 2 ^ i → n * 2 ^ (d + 1) ≡ q * 2 ^ j → (m * 2 ^ j + n * 2 ^ i) * 2 ^ d ≡ q * 2 ^ (i + j)
halves_are m i n j q d first second =
    let a : m * 2 ^ (d + 1) * 2 ^ j ≡ q * 2 ^ i * 2 ^ j = ap (λ (k : ℕ). k * 2 ^ j) first in
    let b : m * 2 ^ (d + 1) * 2 ^ j ≡ m * (2 ^ d * 2 ^ 1) * 2 ^ j = ap (λ (k : ℕ). m * k * 2 ^ j) (pow-add 2 d 1) in
    let c : n * 2 ^ (d + 1) * 2 ^ i ≡ q * 2 ^ j * 2 ^ i = ap (λ (k : ℕ). k * 2 ^ i) second in
    let e : n * 2 ^ (d + 1) * 2 ^ i ≡ n * (2 ^ d * 2 ^ 1) * 2 ^ i = ap (λ (k : ℕ). n * k * 2 ^ i) (pow-add 2 d 1) in
    let f = power_of_sum q i j in omega arith

-- as much as the whole is the whole
whole_as : (q p : Part) → IsSamePart q p → IsWhole p → IsWhole q
whole_as q p h1 h2 = grind (arith, nat_tests, eqb-true, eqb-false, eq_of_mul-eq-mul_left, pow_pos)

-- joined halves are the part again, also where each is known only up to how much of the whole it is
pub parts_again : (a b p : Part) → IsSamePart a (half p) → IsSamePart b (half p) → IsAgain p (together a b)
parts_again a b p first second = let again : IsSamePart (together a b) p = halves_are a.share a.depth b.share b.depth p.share p.depth first second in
    record { same = again; whole = whole_as (together a b) p again }

-- the parts under each kind of step

module _ {V : Type 0} {part_of : V → Part} {IsBlank : V → Type 0} where
  pub shared_first : (v : V) → part_of v ≡ whole → IsShared part_of IsBlank (v ∷ [])
  shared_first v h1 = grind (arith, nat_tests, eqb-true, eqb-false)

  -- a step of one pass, which is still the same part
  pub shared_step : (views : List V) (id : ℕ) (v w : V) → get_elem? views id ≡ some v → part_of w ≡ part_of v → 0 < (part_of v).share
      → IsShared part_of IsBlank views → IsShared part_of IsBlank (set views id w)
  shared_step views id v w h1 h2 h3 h4 = grind (arith, nat_tests, eqb-true, eqb-false, each_at, each_set, total_same)

  pub shared_split : (views : List V) (id : ℕ) (v left right : V) → get_elem? views id ≡ some v → part_of left ≡ half (part_of v) → part_of right ≡ half (part_of v) → 0 < (part_of v).share
      → IsShared part_of IsBlank views → IsShared part_of IsBlank (set views id left ++ right ∷ [])
  shared_split views id v left right at first second alive s = let p : Part = part_of v in let deepest = each_at (λ u. (part_of u).depth ≤ s.finest) views id v at s.within in
      let later = each_so (λ u. (part_of u).depth ≤ s.finest) (λ u. (part_of u).depth ≤ s.finest + 1) views (λ u shallow. omega arith) s.within in
      let here : (w : V) → part_of w ≡ half p → (part_of w).depth ≤ s.finest + 1 = λ w is. subst (λ (q : Part). q.depth ≤ s.finest + 1) (sym is) (omega arith) in
      let alive' : (w : V) → part_of w ≡ half p → (part_of w).share ≡ 0 → IsBlank w = λ w is none. absurd (omega (arith, ap (λ (q : Part). q.share) is)) in record {
        finest = s.finest + 1;
        within = each_snoc (λ u. (part_of u).depth ≤ s.finest + 1) (set views id left) right (each_set (λ u. (part_of u).depth ≤ s.finest + 1) views id left later (here left first)) (here right second);
        one_whole = λ j deep. let sum = weight_half p j (omega arith) in let a = ap (weight j) first in let b = ap (weight j) second in
            total_split (λ u. weight j (part_of u)) views id v left right at (omega arith) ∙ s.one_whole j (omega arith);
        blank = each_snoc (λ u. (part_of u).share ≡ 0 → IsBlank u) (set views id left) right (each_set (λ u. (part_of u).share ≡ 0 → IsBlank u) views id left s.blank (alive' left first)) (alive' right second);
      }

  pub shared_join : (views : List V) (id other : ℕ) (v w both spent : V) → get_elem? views id ≡ some v → get_elem? (set views id both) other ≡ some w
      → part_of both ≡ together (part_of v) (part_of w) → part_of spent ≡ nothing → 0 < (part_of v).share → IsBlank spent
      → IsShared part_of IsBlank views → IsShared part_of IsBlank (set (set views id both) other spent)
  shared_join views id other v w both spent at there joined none alive blank s = let p : Part = part_of v in let q : Part = part_of w in let most : ℕ = s.finest + (p.depth + q.depth) in
      let later = each_so (λ u. (part_of u).depth ≤ s.finest) (λ u. (part_of u).depth ≤ most) views (λ u shallow. omega arith) s.within in
      let P : V → Type 0 = λ u. (part_of u).depth ≤ most in let Q : V → Type 0 = λ u. (part_of u).share ≡ 0 → IsBlank u in record {
        finest = most;
        within = each_set P (set views id both) other spent (each_set P views id both later (subst (λ (r : Part). r.depth ≤ most) (sym joined) (omega arith))) (subst (λ (r : Part). r.depth ≤ most) (sym none) (omega arith));
        one_whole = λ j deep. let sum = weight_together p q j (omega arith) in let a = ap (weight j) joined in let b = ap (weight j) none in
            total_join (λ u. weight j (part_of u)) views id other v w both spent at there (omega arith) ∙ s.one_whole j (omega arith);
        blank = each_set Q (set views id both) other spent (each_set Q views id both s.blank (λ empty. absurd (joined_alive p q alive (sym (ap (λ (r : Part). r.share) joined) ∙ empty)))) (λ _. blank);
      }
    where
      joined_alive : (p q : Part) → 0 < p.share → (together p q).share ≡ 0 → ⊥
      joined_alive p q alive empty = let some_share : 0 < p.share * 2 ^ q.depth = mul-pos alive (pow_pos q.depth) in absurd (omega arith)

  -- a whole pass weighs as much as all together
  pub whole_of_all : (views : List V) (id : ℕ) (v : V) → get_elem? views id ≡ some v → IsWhole (part_of v) → (s : IsShared part_of IsBlank views) → total (λ u. weight s.finest (part_of u)) views ≡ weight s.finest (part_of v)
  whole_of_all views id v h1 h2 s = grind (arith, nat_tests, eqb-true, eqb-false, each_at, weight_whole)
