-- The parties of passes add up.
use Rattle.std.specs.Prelude.{◌≡◌, ◌≢◌, ℕ, zero, suc, ◌≤◌, List, [], ◌∷◌, length}
use Rattle.running_model.specs.Names.{refl, sym, ap, ◌∙◌, arith, IsTally, nat_tests, eqb-true, eqb-false}
use Rattle.running_model.specs.Slots.{Slot, Free, both, all, slot_at, only, Parties, no_parties, all_of, both_parties}

pub free_adds : {V : Type 0} (s : Slot V) → both s Free ≡ s
free_adds s = grind (arith, nat_tests, eqb-true, eqb-false)

swap_slots : {V : Type 0} (s r : Slot V) → both s r ≡ both r s
swap_slots s r = grind (arith, nat_tests, eqb-true, eqb-false)

group_slots : {V : Type 0} (s r u : Slot V) → both (both s r) u ≡ both s (both r u)
group_slots s r u = grind (arith, nat_tests, eqb-true, eqb-false)

pub none_adds : {V : Type 0} (ss : List (Slot V)) → all ss [] ≡ ss
none_adds [] = refl
none_adds (s ∷ ss) = refl

cons : {V : Type 0} (s r : Slot V) (ss rs : List (Slot V)) → s ≡ r → ss ≡ rs → s ∷ ss ≡ r ∷ rs
cons s r ss rs one rest = λ i. one i ∷ rest i

pub swap_all : {V : Type 0} (ss rs : List (Slot V)) → all ss rs ≡ all rs ss
swap_all (s ∷ ss) (r ∷ rs) = cons _ _ _ _ (swap_slots s r) (swap_all ss rs)
swap_all ss rs = grind (arith, nat_tests, eqb-true, eqb-false, cons, none_adds, swap_slots)

pub group_all : {V : Type 0} (ss rs us : List (Slot V)) → all (all ss rs) us ≡ all ss (all rs us)
group_all (s ∷ ss) (r ∷ rs) (u ∷ us) = cons _ _ _ _ (group_slots s r u) (group_all ss rs us)
group_all ss rs us = grind (arith, nat_tests, eqb-true, eqb-false, cons, group_slots)

pub parties_add_up : {V : Type 0} → IsTally (no_parties {V = V}) both_parties (λ _. no_parties)
parties_add_up = grind (arith, nat_tests, eqb-true, eqb-false, group_all, swap_all)

swap_in : {V : Type 0} (a b c : List (Slot V)) → all a (all b c) ≡ all b (all a c)
swap_in {V} a b c = sym (group_all a b c) ∙ ap (λ (ss : List (Slot V)). all ss c) (swap_all a b) ∙ group_all b a c

-- all parties of two passes
pub all_of_both : {V : Type 0} (p r : Parties V) → all_of (both_parties p r) ≡ all (all_of p) (all_of r)
all_of_both p r = grind (arith, nat_tests, eqb-true, eqb-false, group_all, swap_in)

-- slot by slot

pub slot_of_all : {V : Type 0} (q : ℕ) (ss rs : List (Slot V)) → slot_at q (all ss rs) ≡ both (slot_at q ss) (slot_at q rs)
slot_of_all q (s ∷ ss) [] = sym (free_adds (slot_at q (s ∷ ss)))
slot_of_all (suc q) (s ∷ ss) (r ∷ rs) = slot_of_all q ss rs
slot_of_all q ss rs = refl

pub slot_of_only : {V : Type 0} (q : ℕ) (s : Slot V) → slot_at q (only q s) ≡ s
slot_of_only zero s = refl
slot_of_only (suc q) s = slot_of_only q s

pub slot_of_other : {V : Type 0} (q p : ℕ) (s : Slot V) → p ≢ q → slot_at p (only q s) ≡ Free
slot_of_other (suc q) (suc p) s apart = slot_of_other q p s (λ same. apart (ap suc same))
slot_of_other q p s h1 = grind (arith, nat_tests, eqb-true, eqb-false)

pub slot_past_end : {V : Type 0} (q : ℕ) (ss : List (Slot V)) → length ss ≤ q → slot_at q ss ≡ Free
slot_past_end q [] past = refl
slot_past_end zero (s ∷ ss) past = absurd (omega arith)
slot_past_end (suc q) (s ∷ ss) past = slot_past_end q ss (omega arith)
