-- Whether the acting party of a pass has a hold, as a test.
use Rattle.std.specs.Prelude.{ℕ, zero, suc, Bool, true, false, ◌&&◌, is_none, List, [], ◌∷◌, Option, Some}
use Rattle.running_model.specs.Names.{Event, HoldKind, Table, call_of, hold_of}
use Rattle.running_model.specs.Slots.{Slot, Free, Mine, Torn, Parties}

-- these are the slots of one party, which is its owner's
abbrev pub is_one : {V : Type 0} → List (Slot V) → Bool
is_one [] = false
is_one (Free ∷ ss) = is_one ss
is_one (Mine own ∷ []) = true
is_one (Mine own ∷ s ∷ ss) = false
is_one (Torn ∷ ss) = false

-- which party it is, and what it has made
abbrev pub party_in : {V : Type 0} → List (Slot V) → ℕ
party_in [] = zero
party_in (Free ∷ ss) = suc (party_in ss)
party_in (Mine own ∷ ss) = zero
party_in (Torn ∷ ss) = zero

abbrev pub own_in : {V : Type 0} → List (Slot V) → List (Event V)
own_in [] = []
own_in (Free ∷ ss) = own_in ss
own_in (Mine own ∷ ss) = own
own_in (Torn ∷ ss) = []

abbrev pub is_kind : HoldKind → Option HoldKind → Bool
is_kind HoldKind.Read (Some HoldKind.Read) = true
is_kind HoldKind.Write (Some HoldKind.Write) = true
is_kind kind hold = false

-- the acting party has this hold, and no call under way
abbrev pub is_holding : {V P : Type 0} → Table V P → HoldKind → Parties V → Bool
is_holding t kind p =
    is_one p.acting && (is_none (call_of (party_in p.acting) (own_in p.acting)) && is_kind kind (hold_of t (party_in p.acting) (own_in p.acting)))
