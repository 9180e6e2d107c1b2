-- What is known of the history, and which acts are own, as it grows.
use Rattle.std.specs.Prelude.{◌≡◌, ℕ, ◌≤◌, List, [], ◌∷◌, ◌++◌, length}
use Rattle.running_atomic.specs.Names.{Arithmetic, count_at, one_more, both_counts, RegisterAct, zero, suc, sym, refl, ap, ◌∙◌, subst, arith, in_both, more_in_both, AtomicAct, Place, Heard}
use Rattle.running_atomic.specs.declared.history.Place.TheVariants.{Is}
use Rattle.running_atomic.specs.Agree.{merge, met_is, met_else, by_same, merge_idem, merge_comm, merge_assoc}
use Rattle.running_atomic.specs.History.{both_heard, same_act, acts_tell}
use Rattle.running_atomic.specs.AtomicRule.{prefix, known, each_once, acts_in, act_in, history_in}

abbrev pub StartsWith : {A : Type 0} → List A → List A → Type 0
StartsWith {A} l first = (rest : List A) × (l ≡ first ++ rest)

-- each act in the history is an own one once at most, and none beyond it is
abbrev pub AreMarks : {A : Type 0} → List ℕ → List A → Type 0
AreMarks own history = (place : ℕ) → (count_at place own ≤ 1) × (length history ≤ place → count_at place own ≡ 0)

abbrev Places : Type 0
Places = List (Place AtomicAct)

abbrev M : Places → Places → Places
M = merge same_act

-- the sum of two knows what the second knows
pub absorbs : (v r h : Places) → M v r ≡ h → M h r ≡ h
absorbs v r h is = ap (λ (x : Places). M x r) (sym is) ∙ merge_assoc same_act acts_tell v r r ∙ ap (M v) (merge_idem same_act acts_tell r) ∙ is

-- and what the first knows
pub absorbs_first : (v r h : Places) → M v r ≡ h → M h v ≡ h
absorbs_first v r h is = absorbs r v h (merge_comm same_act acts_tell r v ∙ is)

known_more : (h l : List AtomicAct) → M (known (h ++ l)) (known h) ≡ known (h ++ l)
known_more [] l = merge_comm same_act acts_tell (known l) []
known_more (x ∷ h) l = λ i. met_is same_act acts_tell x i ∷ known_more h l i

pub grows : (h l : List AtomicAct) (v r : Places) → M v r ≡ known h → M (known (h ++ l)) r ≡ known (h ++ l)
grows h l v r is = let g : Places = known (h ++ l) in
    ap (λ (x : Places). M x r) (sym (known_more h l)) ∙ merge_assoc same_act acts_tell g (known h) r ∙ ap (M g) (absorbs v r (known h) is) ∙ known_more h l

-- what is known of a history from the first act on begins it
starts : (h : List AtomicAct) (p : Places) → M (known h) p ≡ known h → StartsWith h (prefix p)
starts [] (Is x ∷ p) is = absurd cc
starts (y ∷ h) (Is x ∷ p) is = by_same same_act acts_tell _ y x
    (λ same. let rest : M (known h) p ≡ known h = cc in let t = starts h p rest in (t.0, (λ i. same i ∷ t.1 i)))
    (λ apart. let torn = met_else same_act acts_tell y x apart in absurd cc)
starts h other is = (h, refl)

pub prefix_known : (h : List AtomicAct) → prefix (known h) ≡ h
prefix_known [] = refl
prefix_known (x ∷ h) = ap (λ (l : List AtomicAct). x ∷ l) (prefix_known h)

-- own acts

pub snoc_own : (h : List AtomicAct) (a : AtomicAct) → one_more (length h) (each_once h) ≡ each_once (h ++ a ∷ [])
snoc_own [] a = refl
snoc_own (x ∷ h) a = ap (λ (l : List ℕ). 1 ∷ l) (snoc_own h a)

pub grows_own : (h : List AtomicAct) (a : AtomicAct) (v r : List ℕ) → both_counts v r ≡ each_once h → both_counts (one_more (length h) v) r ≡ each_once (h ++ a ∷ [])
grows_own h a v r is = more_in_both (length h) v r ∙ ap (one_more (length h)) is ∙ snoc_own h a

in_once : (x : ℕ) (h : List AtomicAct) → (count_at x (each_once h) ≤ 1) × (length h ≤ x → count_at x (each_once h) ≡ 0)
in_once x [] = (omega arith, λ _. refl)
in_once zero (a ∷ h) = (omega arith, λ le. absurd (omega arith))
in_once (suc x) (a ∷ h) = let t = in_once x h in (t.0, λ le. t.1 (omega arith))

marks : (h : List AtomicAct) (v r : List ℕ) → both_counts v r ≡ each_once h → AreMarks v h
marks h v r is x = let t = in_once x h in let sum = sym (ap (count_at x) is) ∙ in_both x v r in let low = t.0 in (omega arith, λ le. let none = t.1 le in omega arith)

module _ {T : Type 0} (z : Arithmetic T) where
  pub acts_append : (h l : List AtomicAct) → acts_in z (h ++ l) ≡ acts_in z h ++ acts_in z l
  acts_append [] l = refl
  acts_append (x ∷ h) l = ap (λ (l : List (RegisterAct T)). act_in z x ∷ l) (acts_append h l)

  pub acts_length : (h : List AtomicAct) → length (acts_in z h) ≡ length h
  acts_length [] = refl
  acts_length (x ∷ h) = ap suc (acts_length h)

  pub each_act : (h : List AtomicAct) → each_once (acts_in z h) ≡ each_once h
  each_act [] = refl
  each_act (x ∷ h) = ap (λ (l : List ℕ). 1 ∷ l) (each_act h)

  -- all is known of a history
  pub seen_known : (t : Heard) (h : List AtomicAct) → t.seen ≡ known h → history_in z t ≡ acts_in z h
  seen_known t h is = ap (λ (p : Places). acts_in z (prefix p)) is ∙ ap (acts_in z) (prefix_known h)

  -- the history that all know begins with what one of them knows
  pub begins : (h : List AtomicAct) (v r : Heard) → (both_heard v r).seen ≡ known h → StartsWith (acts_in z h) (history_in z v)
  begins h v r is = let t = starts h v.seen (absorbs_first v.seen r.seen (known h) is) in (acts_in z t.0, ap (acts_in z) t.1 ∙ acts_append (prefix v.seen) t.0)

  pub marks_in : (h : List AtomicAct) (v r : List ℕ) → both_counts v r ≡ each_once h → (history : List (RegisterAct T)) → history ≡ acts_in z h → AreMarks v history
  marks_in h v r is history same x = let t = marks h v r is x in (t.0, λ le. t.1 (subst (λ n. n ≤ x) (ap length same ∙ acts_length h) le))
