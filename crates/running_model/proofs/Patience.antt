-- How a call that is refused goes on.
use Rattle.running_model.proofs.Names.{WaitAction, Call, Then, Patience, answered, ◌≡◌, ℕ, ◌+◌, ◌<◌, sym, subst, List, None, arith, nat_tests, Model, Slot, Parties, Answered, IsAt, ComesBy, spun, IsRefused, IsStanding, eqb-true, eqb-false}

module _ {V P : Type 0} (m : Model V P) (call : Call V) (place : Patience → P) where
  -- it spins while it has spins left

  pub spins_on : (n seen : ℕ) (done : List (Slot V)) (p : Parties V) → n < 10000 → IsRefused m call place (spun n) seen done p → IsAt m call (place (spun (n + 1))) Then.GoesOn None done p
  spins_on n seen done p below at = grind (arith, nat_tests, eqb-true, eqb-false)

  -- then it stands

  pub stands : (n seen : ℕ) (done : List (Slot V)) (p : Parties V) → n ≡ 10000 → IsRefused m call place (spun n) seen done p → IsStanding m call place seen done p
  stands n seen done p all at = subst (λ (k : ℕ). IsRefused m call place (spun k) seen done p) all at

  -- after its closure's answer it comes to another try

  pub tries_on :
      ((p : Patience) (action : WaitAction) → m.table.answered (place p) action ≡ place (answered p action)) → (action : WaitAction) (told : ℕ) (done : List (Slot V)) (p : Parties V) →
      IsStanding m call place told done p → ComesBy m (Answered action) call (place (answered (spun 10000) action)) None done p
  tries_on answers action told done p at = record { stood = place (spun 10000); told = told; at = at; answered = sym (answers (spun 10000) action) }
