-- Which part of the whole a pass is, and what all passes of one object are together.
use Rattle.std.specs.Prelude.{◌≡◌, ℕ, ◌+◌, ◌-◌, ◌*◌, ◌^◌, ◌≤◌, List, [], ◌∷◌}
use Rattle.running_passes.specs.declared.part.Part.{Part}

abbrev pub part : ℕ → ℕ → Part
part share depth = record { share = share; depth = depth }

-- the part that `new` gives
abbrev pub whole : Part
whole = part 1 0

-- no part, which is left of a pass that was joined to another
abbrev pub nothing : Part
nothing = part 0 0

-- each of the two parts that `split` gives
abbrev pub half : Part → Part
half p = part p.share (p.depth + 1)

-- what `join` gives
abbrev pub together : Part → Part → Part
together p q = part (p.share * 2 ^ q.depth + q.share * 2 ^ p.depth) (p.depth + q.depth)

-- the pass that has it is the only one that is left
abbrev pub IsWhole : Part → Type 0
IsWhole p = p.share ≡ 2 ^ p.depth

-- as much of the whole
abbrev pub IsSamePart : Part → Part → Type 0
IsSamePart p q = p.share * 2 ^ q.depth ≡ q.share * 2 ^ p.depth

-- q is that part again, and so whole where it was
pub record IsAgain (p q : Part) : Type 0 where
  pub same : IsSamePart q p
  pub whole : IsWhole p → IsWhole q

-- how many of 2 ^ j equal parts it is, for each j from its depth on
abbrev pub weight : ℕ → Part → ℕ
weight j p = p.share * 2 ^ (j - p.depth)

-- two parts weigh together what p does
pub record AddUp (p one other : Part) : Type 0 where
  pub weighs : (j : ℕ) → p.depth ≤ j → one.depth ≤ j → other.depth ≤ j → weight j one + weight j other ≡ weight j p

module _ {V : Type 0} where
  -- f of each, added up
  abbrev pub total : (V → ℕ) → List V → ℕ
  total f [] = 0
  total f (v ∷ views) = f v + total f views

  -- P holds of each
  abbrev pub Each : (V → Type 0) → List V → Type 0
  Each P [] = Unit {0}
  Each P (v ∷ views) = P v × Each P views

-- The passes of one object share the whole, and one without a part is blank: it has no hold, and counted and saw nothing.
-- From `finest` on every depth serves to weigh them, so a split or a join only raises it.
pub record IsShared {V : Type 0} (part_of : V → Part) (IsBlank : V → Type 0) (views : List V) : Type 0 where
  pub finest : ℕ
  pub within : Each (λ v. (part_of v).depth ≤ finest) views
  pub one_whole : (j : ℕ) → finest ≤ j → total (λ v. weight j (part_of v)) views ≡ 2 ^ j
  pub blank : Each (λ v. (part_of v).share ≡ 0 → IsBlank v) views
