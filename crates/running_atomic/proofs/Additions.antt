-- What callers prove of a pass that only adds: by each addition, by a join, and of the value at the end. That a new pass has added nothing,
-- and what the parts of a pass have added, is found by search.
use Rattle.running_atomic.proofs.Names.{◌≡◌, ℕ, zero, suc, ◌+◌, ◌*◌, ◌%◌, ◌^◌, ◌<◌, List, [], ◌∷◌, ◌++◌, length, refl, sym, ap, subst, ◌∙◌, arith, IsWhole, one_more, both_counts, Answer, Arithmetic, u128_arithmetic, RegisterAct, plain, value_after, after_acts, AtomicPass, each_once, part_of_atomic, HasActed, HasJoined, IsLastOf, acts_in_all, AreAdditions, HasAdded, after_adding, nat_tests, eqb-true, eqb-false}
use Rattle.model_events.specs.declared.event.Call.TheVariants as calls

-- how many are counted

more_in_all : (place : ℕ) (own : List ℕ) → acts_in_all (one_more place own) ≡ acts_in_all own + 1
more_in_all zero [] = refl
more_in_all zero (n ∷ own) = omega arith
more_in_all (suc place) [] = let rest = more_in_all place [] in omega (arith, rest)
more_in_all (suc place) (n ∷ own) = let rest = more_in_all place own in omega (arith, rest)

both_in_all : (xs ys : List ℕ) → acts_in_all (both_counts xs ys) ≡ acts_in_all xs + acts_in_all ys
both_in_all [] ys = omega arith
both_in_all (x ∷ xs) [] = omega arith
both_in_all (x ∷ xs) (y ∷ ys) = let rest = both_in_all xs ys in omega (arith, rest)

all_once : {A : Type 0} (h : List A) → acts_in_all (each_once h) ≡ length h
all_once [] = refl
all_once (a ∷ h) = let rest = all_once h in omega (arith, rest)

-- and what they are

module _ {T : Type 0} (x : T) where
  grows : (own : List ℕ) (h more : List (RegisterAct T)) → AreAdditions x own h → AreAdditions x own (h ++ more)
  grows [] h more are = tt
  grows (zero ∷ own) [] [] are = are
  grows (zero ∷ own) [] (b ∷ more) are = grows own [] more are
  grows (suc n ∷ own) [] more are = absurd are
  grows (zero ∷ own) (a ∷ h) more are = grows own h more are
  grows (suc n ∷ own) (a ∷ h) more are = (are.0, grows own h more are.1)

  here : (k n : ℕ) (own : List ℕ) (a : RegisterAct T) (h : List (RegisterAct T)) → k ≡ suc n → (a ≡ plain (calls.FetchAdd x)) × AreAdditions x own h → AreAdditions x (k ∷ own) (a ∷ h)
  here k n own a h is are = subst (λ (m : ℕ). AreAdditions x (m ∷ own) (a ∷ h)) (sym is) are

  both : (xs ys : List ℕ) (h : List (RegisterAct T)) → AreAdditions x xs h → AreAdditions x ys h → AreAdditions x (both_counts xs ys) h
  both [] ys h one other = other
  both (m ∷ xs) [] h one other = one
  both (zero ∷ xs) (zero ∷ ys) [] one other = both xs ys [] one other
  both (zero ∷ xs) (suc n ∷ ys) [] one other = absurd other
  both (suc m ∷ xs) (n ∷ ys) [] one other = absurd one
  both (zero ∷ xs) (zero ∷ ys) (a ∷ h) one other = both xs ys h one other
  both (zero ∷ xs) (suc n ∷ ys) (a ∷ h) one other = here (0 + suc n) n (both_counts xs ys) a h (omega arith) (other.0, both xs ys h one other.1)
  both (suc m ∷ xs) (zero ∷ ys) (a ∷ h) one other = here (suc m + 0) m (both_counts xs ys) a h (omega arith) (one.0, both xs ys h one.1 other)
  both (suc m ∷ xs) (suc n ∷ ys) (a ∷ h) one other = here (suc m + suc n) (m + suc n) (both_counts xs ys) a h (omega arith) (one.0, both xs ys h one.1 other.1)

  one_addition_more : (own : List ℕ) (h : List (RegisterAct T)) → AreAdditions x own h → AreAdditions x (one_more (length h) own) (h ++ plain (calls.FetchAdd x) ∷ [])
  one_addition_more [] [] are = (refl, tt)
  one_addition_more (zero ∷ own) [] are = (refl, are)
  one_addition_more (suc n ∷ own) [] are = absurd are
  one_addition_more [] (a ∷ h) are = one_addition_more [] h tt
  one_addition_more (zero ∷ own) (a ∷ h) are = one_addition_more own h are
  one_addition_more (suc n ∷ own) (a ∷ h) are = (are.0, one_addition_more own h are.1)

  module _ (z : Arithmetic T) where
    after_additions : (v : T) (h : List (RegisterAct T)) → AreAdditions x (each_once h) h → after_acts z v h ≡ after_adding z x (length h) v
    after_additions v [] are = refl
    after_additions v (a ∷ h) are = ap (λ (b : RegisterAct T). after_acts z (value_after z b v) h) are.0 ∙ after_additions (z.add v x) h are.1

    -- by an addition
    pub adds : (n : ℕ) (opening : T) (answer : Answer T) (p q : AtomicPass T) → HasActed z opening (plain (calls.FetchAdd x)) answer p q → HasAdded z x n p → HasAdded z x (n + 1) q
    adds n opening answer p q h1 h2 = grind (arith, nat_tests, eqb-true, eqb-false, grows, more_in_all, one_addition_more)

    -- of two passes that are joined
    pub joins_added : (n m : ℕ) (p q w : AtomicPass T) → HasJoined z p q w → HasAdded z x n p → HasAdded z x m q → HasAdded z x (n + m) w
    joins_added n m p q w h1 h2 h3 = grind (arith, nat_tests, eqb-true, eqb-false, both, both_in_all, grows)

    -- with the whole pass the value is the opening one and what was added
    pub sum_of_additions : (n : ℕ) (opening value : T) (p : AtomicPass T) → IsWhole (part_of_atomic p) → IsLastOf z opening p value → HasAdded z x n p → value ≡ after_adding z x n opening
    sum_of_additions n opening value p h1 h2 h3 = grind (arith, nat_tests, eqb-true, eqb-false, after_additions, all_once)

-- of a type without a sign

times_more : (n x : ℕ) → suc n * x ≡ x + n * x
times_more n x = search arith

pub sum_wide : (x n v : ℕ) → v < 2 ^ 128 → after_adding u128_arithmetic x n v ≡ (v + n * x) % 2 ^ 128
sum_wide x zero v below = omega (arith, below)
sum_wide x (suc n) v below = let rest = sum_wide x n ((v + x) % 2 ^ 128) (omega arith) in let more = times_more n x in omega (arith, rest, more)
