-- The test whether a pass has a hold tells it.
use Rattle.running_model.proofs.Names.{Event, HoldKind, ◌≡◌, ℕ, zero, suc, refl, ap, true, List, ◌∷◌, Model, Slot, Free, Mine, only, Parties, IsHolding, nat_tests, eqb-true, eqb-false, arith}
use Rattle.running_model.specs.Holding.{is_one, party_in, own_in, is_holding}

one_is : {V : Type 0} (ss : List (Slot V)) → is_one ss ≡ true → ss ≡ only (party_in ss) (Mine (own_in ss))
one_is {V} (Free ∷ ss) is = ap (λ (rest : List (Slot V)). Free ∷ rest) (one_is ss is)
one_is ss h1 = grind (arith, nat_tests, eqb-true, eqb-false)

only_tells : {V : Type 0} (q : ℕ) (own : List (Event V)) → (is_one (only q (Mine own)) ≡ true) × (party_in (only q (Mine own)) ≡ q) × (own_in (only q (Mine own)) ≡ own)
only_tells zero own = (refl, refl, refl)
only_tells (suc q) own = let rest = only_tells q own in (rest.0, ap suc rest.1, rest.2)

module _ {V P : Type 0} (m : Model V P) where
  pub holding_told : (kind : HoldKind) (p : Parties V) → is_holding m.table kind p ≡ true → IsHolding m kind p.resting p
  holding_told kind p h1 = grind (arith, nat_tests, eqb-true, eqb-false, one_is)

  pub holding_is : (kind : HoldKind) (done : List (Slot V)) (p : Parties V) → IsHolding m kind done p → is_holding m.table kind p ≡ true
  holding_is kind done p h1 = grind (arith, nat_tests, eqb-true, eqb-false, only_tells)
