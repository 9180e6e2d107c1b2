-- How a reader's call begins, and that its exchange was done.
use Rattle.running_rw_hold.proofs.Names.{◌≡◌, ℕ, ◌==◌, true, None, refl, sym, subst, Call, Parties, all_of, Beginning, ComesBy, MayBegin}
use Rattle.model_events.proofs.Holds.{eqb_same}
use Rattle.running_model.specs.Models.{Model}

pub surely : (seen found : ℕ) → found ≡ seen → (found == seen) ≡ true
surely seen found is = subst (λ (n : ℕ). (n == seen) ≡ true) (sym is) (eqb_same seen)

-- how a call begins by a party that is new
pub begins_so : {V P : Type 0} (m : Model V P) (call : Call V) (place : P) (p : Parties V) → MayBegin m call place None → ComesBy m (Beginning call) call place None (all_of p) p
begins_so m call place p may = (refl, record { may = may; new = refl; others = refl })
