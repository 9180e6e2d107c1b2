-- What a pass is in the model: the parties that are its own, each with all events that it has made.
use Rattle.std.specs.Prelude.{ℕ, zero, suc, List, [], ◌∷◌}
use Rattle.running_model.specs.Names.{Event}

-- of one party: it has made nothing; or it is its owner's, and has made these events, newest first; or two say that it is theirs
pub data Slot (V : Type 0) : Type 0 where
  Free : Slot V
  Mine : List (Event V) → Slot V
  Torn : Slot V

abbrev pub both : {V : Type 0} → Slot V → Slot V → Slot V
both Free s = s
both (Mine own) Free = Mine own
both (Mine own) (Mine others) = Torn
both (Mine own) Torn = Torn
both Torn s = Torn

-- the slots of two passes together, by party
abbrev pub all : {V : Type 0} → List (Slot V) → List (Slot V) → List (Slot V)
all [] rs = rs
all (s ∷ ss) [] = s ∷ ss
all (s ∷ ss) (r ∷ rs) = both s r ∷ all ss rs

abbrev pub slot_at : {V : Type 0} → ℕ → List (Slot V) → Slot V
slot_at q [] = Free
slot_at zero (s ∷ ss) = s
slot_at (suc q) (s ∷ ss) = slot_at q ss

-- the slots of one party
abbrev pub only : {V : Type 0} → ℕ → Slot V → List (Slot V)
only zero s = s ∷ []
only (suc q) s = Free ∷ only q s

-- The parties of a pass: the one that acts, whose call is under way or which has a hold; and those that rest, which make no more steps.
pub record Parties (V : Type 0) : Type 0 where
  pub acting : List (Slot V)
  pub resting : List (Slot V)

abbrev pub parties : {V : Type 0} → List (Slot V) → List (Slot V) → Parties V
parties acting resting = record { acting = acting; resting = resting }

abbrev pub no_parties : {V : Type 0} → Parties V
no_parties = parties [] []

-- all parties of a pass
abbrev pub all_of : {V : Type 0} → Parties V → List (Slot V)
all_of p = all p.acting p.resting

-- the parties of two passes
abbrev pub both_parties : {V : Type 0} → Parties V → Parties V → Parties V
both_parties p r = parties (all p.acting r.acting) (all p.resting r.resting)
