-- How a call is over.
use Rattle.running_model.proofs.Names.{MatchBool, Call, Answer, HoldKind, Bool, List, Option, None, Model, Slot, Parties, HasEnded, nat_tests, eqb-true, eqb-false, arith}
use Rattle.running_model.specs.Turns.{IsOver}

module _ {V P : Type 0} (m : Model V P) where
  pub is_over : (call : Call V) (answer : Answer V) (hold : Option HoldKind) (done : List (Slot V)) (p : Parties V) → HasEnded m call answer hold done p → IsOver m p
  is_over call answer hold done p ended = record { call = call; answer = answer; hold = hold; done = done; ended = ended }

  -- by a grant, or it gave up
  pub either_is_over : (granted : Bool) (call : Call V) (hold : Option HoldKind) (done : List (Slot V)) (p : Parties V) →
      MatchBool granted (HasEnded m call Answer.Success hold done p) (HasEnded m call Answer.Interrupted None done p) → IsOver m p
  either_is_over granted call hold done p h1 = grind (arith, nat_tests, eqb-true, eqb-false)
