-- The events of one party tell its call and its hold.
use Rattle.running_model.proofs.Names.{nat_lt, Act, Event, Then, StepFault, HoldKind, PendingCall, call_of, call_after, hold_of, hold_after, event, fault_at, IsPast, Table, ◌≡◌, ◌≢◌, ℕ, ◌<◌, ◌≤◌, ◌==◌, refl, sym, ap, ◌∙◌, subst, Bool, true, false, cond, List, [], ◌∷◌, Option, Some, None, ◌⊎◌, inl, inr, arith, nat_tests, eqb_tells, eqb_other, hold_of_same, hold_of_other, Model, events_of, eqb-true, eqb-false}

pub events_of_other : {V : Type 0} (q p : ℕ) (act : Act V) (outcome : Then V) (past : List (Event V)) → p ≢ q → events_of p (event q act outcome ∷ past) ≡ events_of p past
events_of_other q p act outcome past other = rw (eqb_other q p other) refl

-- a party's call and hold are those of its own events

pub own_call : {V : Type 0} (q : ℕ) (past : List (Event V)) → call_of q (events_of q past) ≡ call_of q past
own_call q [] = refl
own_call q (e ∷ past) = by_party (own_call q past) (e.party == q) refl
  where
    by_party : call_of q (events_of q past) ≡ call_of q past → (b : Bool) → (e.party == q) ≡ b →
        call_of q (cond b (e ∷ events_of q past) (events_of q past)) ≡ cond b (call_after e.then e (call_of q past)) (call_of q past)
    by_party rest true is = rw is (ap (call_after e.then e) rest)
    by_party rest false is = rest

module _ {V P : Type 0} (t : Table V P) where
  pub own_hold : (q : ℕ) (past : List (Event V)) → hold_of t q (events_of q past) ≡ hold_of t q past
  own_hold q [] = refl
  own_hold q (e ∷ past) = by_party (own_hold q past) (eqb_tells e.party q)
    where
      mine : hold_of t q (events_of q past) ≡ hold_of t q past → e.party ≡ q → hold_of t q (e ∷ events_of q past) ≡ hold_of t q (e ∷ past)
      mine rest is = subst (λ (p : ℕ). hold_of t p (events_of q past) ≡ hold_of t p past → call_of p (events_of q past) ≡ call_of p past → hold_of t p (e ∷ events_of q past) ≡ hold_of t p (e ∷ past)) is
          (λ holds calls. hold_of_same t e.party e.act e.then (events_of q past) ∙ ap (λ (x : Option (PendingCall V) × Option HoldKind). hold_after t e.act x.0 x.1) (λ i. (calls i, holds i)) ∙ sym (hold_of_same t e.party e.act e.then past))
          rest (own_call q past)

      by_party : hold_of t q (events_of q past) ≡ hold_of t q past → (((e.party == q) ≡ true) × (e.party ≡ q)) ⊎ (((e.party == q) ≡ false) × (e.party ≢ q)) → hold_of t q (events_of q (e ∷ past)) ≡ hold_of t q (e ∷ past)
      by_party rest (inl is) = rw is.0 (mine rest is.1)
      by_party rest (inr other) = rw other.0 (rest ∙ sym (hold_of_other t e.party q e.act e.then past (λ same. other.1 (sym same))))

module _ {V P : Type 0} (m : Model V P) where
  -- a party that is not there has made nothing

  below : (party n : ℕ) (fault : Option StepFault) → cond (nat_lt party n) fault (Some StepFault.NoParty) ≡ None → party < n
  below party n fault h1 = grind (arith, nat_tests, eqb-true, eqb-false)

  pub absent : (n q : ℕ) (past : List (Event V)) → n ≤ q → IsPast m.arithmetic m.table n past → events_of q past ≡ []
  absent n q [] apart run = refl
  absent n q (e ∷ past) apart run =
      let there = below e.party n (fault_at m.table (call_of e.party past) (hold_of m.table e.party past) run.0.0) run.0.1.allowed in
      events_of_other e.party q e.act e.then past (λ same. absurd (omega (arith, same))) ∙ absent n q past apart run.1
