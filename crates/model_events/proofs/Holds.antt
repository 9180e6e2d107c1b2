-- What one more event changes in the calls and the holds of each party.
use Rattle.model_events.proofs.Names.{◌≡◌, ◌≢◌, ℕ, ◌==◌, refl, sym, ◌∙◌, Bool, true, false, cond, List, [], ◌∷◌, Option, Some, None, arith, eq-eqb, eqb-true, eqb-false, nat_tests, Table, Hold, PendingCall, call_of, call_after, holds_of, hold_among, hold_or, hold_after, without, with_hold, is_release, hold_taken, event, IsExclusive, Call, Act, Then, Event, HoldKind}

pub eqb_same : (p : ℕ) → (p == p) ≡ true
eqb_same p = eq-eqb p p refl

pub eqb_other : (p q : ℕ) → q ≢ p → (p == q) ≡ false
eqb_other p q other = grind (arith, nat_tests)

pub some_same : {A : Type 0} (x y : A) → Some x ≡ Some y → x ≡ y
some_same x y is = cc

-- the call under way of the event's party, and of another

pub call_of_same :
    {T : Type 0} (p : ℕ) (act : Act T) (outcome : Then T) (past : List (Event T)) →
    call_of p (event p act outcome ∷ past) ≡ call_after outcome (event p act outcome) (call_of p past)
call_of_same p act outcome past = rw (eqb_same p) refl

pub call_of_other :
    {T : Type 0} (p q : ℕ) (act : Act T) (outcome : Then T) (past : List (Event T)) → q ≢ p →
    call_of q (event p act outcome ∷ past) ≡ call_of q past
call_of_other p q act outcome past other = rw (eqb_other p q other) refl

-- the hold of the event's party, and of another

pub hold_among-without_same : (p : ℕ) (holds : List Hold) → hold_among p (without p holds) ≡ None
hold_among-without_same p [] = refl
hold_among-without_same p (hold ∷ holds) = by_test (hold_among-without_same p holds) (hold.0 == p) refl
  where
    by_test : hold_among p (without p holds) ≡ None → (b : Bool) → (hold.0 == p) ≡ b → hold_among p (cond b (without p holds) (hold ∷ without p holds)) ≡ None
    by_test rest true e = rest
    by_test rest false e = rw e rest

pub hold_among-without_other : (p q : ℕ) (holds : List Hold) → q ≢ p → hold_among q (without p holds) ≡ hold_among q holds
hold_among-without_other p q [] other = refl
hold_among-without_other p q (hold ∷ holds) other = by_test (hold_among-without_other p q holds other) (hold.0 == p) (hold.0 == q) refl refl
  where
    by_test : hold_among q (without p holds) ≡ hold_among q holds → (b d : Bool) → (hold.0 == p) ≡ b → (hold.0 == q) ≡ d → hold_among q (cond b (without p holds) (hold ∷ without p holds)) ≡ cond d (Some hold.1) (hold_among q holds)
    by_test rest true true e f = absurd (other (sym (eqb-true hold.0 q f) ∙ eqb-true hold.0 p e))
    by_test rest true false e f = rest
    by_test rest false true e f = rw f refl
    by_test rest false false e f = rw f rest

-- the holds after an event, by whether it releases and what it takes
stepped_holds : Bool → ℕ → Option HoldKind → List Hold → List Hold
stepped_holds releases p kind holds = cond releases (without p holds) (with_hold p kind holds)

hold_among-stepped_same :
    (b : Bool) (p : ℕ) (kind : Option HoldKind) (holds : List Hold) →
    hold_among p (stepped_holds b p kind holds) ≡ cond b None (hold_or kind (hold_among p holds))
unfolding stepped_holds
hold_among-stepped_same true p kind holds = hold_among-without_same p holds
hold_among-stepped_same false p None holds = refl
hold_among-stepped_same false p (Some kind) holds = rw (eqb_same p) refl

hold_among-stepped_other :
    (b : Bool) (p q : ℕ) (kind : Option HoldKind) (holds : List Hold) → q ≢ p →
    hold_among q (stepped_holds b p kind holds) ≡ hold_among q holds
unfolding stepped_holds
hold_among-stepped_other true p q kind holds other = hold_among-without_other p q holds other
hold_among-stepped_other false p q None holds other = refl
hold_among-stepped_other false p q (Some kind) holds other = rw (eqb_other p q other) refl

pub hold_of_same :
    {T P : Type 0} (t : Table T P) (p : ℕ) (act : Act T) (outcome : Then T) (past : List (Event T)) →
    hold_among p (holds_of t (event p act outcome ∷ past)) ≡ hold_after t act (call_of p past) (hold_among p (holds_of t past))
unfolding stepped_holds
hold_of_same t p act outcome past = hold_among-stepped_same (is_release act) p (hold_taken t act (call_of p past)) (holds_of t past)

pub hold_of_other :
    {T P : Type 0} (t : Table T P) (p q : ℕ) (act : Act T) (outcome : Then T) (past : List (Event T)) → q ≢ p →
    hold_among q (holds_of t (event p act outcome ∷ past)) ≡ hold_among q (holds_of t past)
unfolding stepped_holds
hold_of_other t p q act outcome past other = hold_among-stepped_other (is_release act) p q (hold_taken t act (call_of p past)) (holds_of t past) other

-- Where no call is granted a hold, nobody has one.

takes_none :
    {T P : Type 0} (t : Table T P) → ((call : Call T) (from to : ℕ) → t.grant call from to ≡ None) → (act : Act T) (pending : Option (PendingCall T)) → hold_taken t act pending ≡ None
takes_none t h1 act pending = grind (arith, nat_tests, eqb-true, eqb-false)

pub no_holds : {T P : Type 0} (t : Table T P) → ((call : Call T) (from to : ℕ) → t.grant call from to ≡ None) → (past : List (Event T)) → holds_of t past ≡ []
no_holds t ungranted [] = refl
no_holds {T} t ungranted (e ∷ past) = by_test (is_release e.act) (no_holds t ungranted past)
  where
    by_test : (b : Bool) → holds_of t past ≡ [] →
        ◌≡◌ {A = List Hold} (cond b (without e.party (holds_of t past)) (with_hold e.party (hold_taken t e.act (call_of e.party past)) (holds_of t past))) []
    by_test true free = rw free refl
    by_test false free = rw (takes_none t ungranted e.act (call_of e.party past), free) refl

pub exclusive_unheld : (holds : List Hold) → holds ≡ [] → IsExclusive holds
exclusive_unheld holds none = rw none (λ party among. absurd (omega (arith, among.1)))
