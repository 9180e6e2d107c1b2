-- How a waiting call counts its spins, and knows whether it keeps on asking.
use Rattle.model_events.proofs.Names.{eqb-true, eqb-false, ◌≡◌, ℕ, ◌+◌, ◌≤◌, refl, Bool, true, false, ◌&&◌, List, [], ◌∷◌, arith, nat_lt, MatchBool, nat_tests, is_continue, refused, within, outcome_of, event, keeps_asking, spins_in, is_abort, is_refusal, WaitAction, Act, Event, Then, Patience}

-- the own events of a call whose place has this patience, where such acts are tries in vain
pub record HasSpun {T : Type 0} (in_vain : Act T → Bool) (patience : Patience) (own : List (Event T)) : Type 0 where
  pub spun : spins_in in_vain own ≡ patience.spins
  pub keeps : keeps_asking own ≡ patience.keep
  pub within_limit : patience.spins ≤ 10000

pub spins_left : (n : ℕ) → nat_lt n 10000 ≡ true → n + 1 ≤ 10000
spins_left n left = grind (arith, nat_tests)

pub spins_spent : (n : ℕ) → n ≤ 10000 → nat_lt n 10000 ≡ false → n ≡ 10000
spins_spent n below left = grind (arith, nat_tests)

-- an answer of the wait closure

pub answered_keep : {T : Type 0} (keep : Bool) (action : WaitAction) (own : List (Event T)) (number : ℕ) → keeps_asking own ≡ keep → keeps_asking (event number (Act.Answered action) Then.GoesOn ∷ own) ≡ (keep && is_continue action)
answered_keep keep action own number h1 = grind (arith, nat_tests, eqb-true, eqb-false)

-- What one more event of the call makes of it.

-- a call that has just begun
pub begun_spun : {T : Type 0} (in_vain : Act T → Bool) → HasSpun {T = T} in_vain (record { spins = 0; keep = true }) []
begun_spun in_vain = record { spun = refl; keeps = refl; within_limit = omega arith }

-- an act that is no try in vain, and no answer of the closure
pub passed_on :
    {T : Type 0} (in_vain : Act T → Bool) (patience : Patience) (own : List (Event T)) (number : ℕ) (act : Act T) (outcome : Then T) → HasSpun in_vain patience own →
    in_vain act ≡ false → is_abort act ≡ false → HasSpun in_vain patience (event number act outcome ∷ own)
passed_on in_vain patience own number act outcome so tries quiet = record { spun = rw tries (omega (arith, so.spun)); keeps = rw quiet so.keeps; within_limit = so.within_limit }

-- A try in vain, by two tests: the call keeps on asking, it has spins left.

-- it gives up only where its closure has answered Abort
pub refused_because :
    {T P : Type 0} (in_vain : Act T → Bool) (wrap : Patience → P) (patience : Patience) (seen : ℕ) (own : List (Event T)) (Because : Type 0) → HasSpun in_vain patience own → (keeps_asking own ≡ false → Because) →
    MatchBool (is_refusal (outcome_of (within wrap (refused {T = T} patience seen)))) Because (Unit {0})
refused_because in_vain wrap patience seen own Because h1 h2 = grind (arith, nat_tests, eqb-true, eqb-false)
