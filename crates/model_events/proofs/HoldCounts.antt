-- Holds of two kinds in one list: each party has one at most, so a release takes away one hold, and that of its party.
use Rattle.model_events.proofs.Names.{nat_tests, ◌≡◌, ℕ, zero, suc, ◌+◌, ◌<◌, ◌==◌, refl, ap, subst, Bool, true, false, cond, List, [], ◌∷◌, Some, None, length, get_or, arith, eqb-true, eqb-false, Hold, hold_among, without, same_kind, holds_of_kind, reads_in, writes_in, IsExclusive, HoldKind}
use Rattle.model_events.proofs.Holds.{hold_among-without_same, hold_among-without_other}

-- each party has one hold at most
abbrev pub IsOneEach : List Hold → Type 0
IsOneEach [] = Unit {0}
IsOneEach (hold ∷ holds) = (hold_among hold.0 holds ≡ None) × IsOneEach holds

-- a release of a party without a hold takes nothing away
pub without_none : (p : ℕ) (holds : List Hold) → hold_among p holds ≡ None → without p holds ≡ holds
without_none p [] none = refl
without_none p (hold ∷ holds) none = by_test (without_none p holds) (hold.0 == p) none
  where
    by_test : (hold_among p holds ≡ None → without p holds ≡ holds) → (b : Bool) → cond b (Some hold.1) (hold_among p holds) ≡ None → ◌≡◌ {A = List Hold} (cond b (without p holds) (hold ∷ without p holds)) (hold ∷ holds)
    by_test rest true is = absurd cc
    by_test rest false is = ap (λ (hs : List Hold). hold ∷ hs) (rest is)

-- who has no hold has none after any release
still_none : (p q : ℕ) (holds : List Hold) → hold_among q holds ≡ None → hold_among q (without p holds) ≡ None
still_none p q holds h1 = grind (arith, nat_tests, eqb-true, eqb-false, hold_among-without_same, hold_among-without_other)

pub without_one_each : (p : ℕ) (holds : List Hold) → IsOneEach holds → IsOneEach (without p holds)
without_one_each p [] each = tt
without_one_each p (hold ∷ holds) each = by_test (without_one_each p holds each.1) (hold.0 == p)
  where
    by_test : IsOneEach (without p holds) → (b : Bool) → IsOneEach (cond b (without p holds) (hold ∷ without p holds))
    by_test rest true = rest
    by_test rest false = (still_none p hold.0 holds each.0, rest)

-- a release takes away one hold of the kind that its party had
pub without_counts :
    (counted kind : HoldKind) (p : ℕ) (holds : List Hold) → IsOneEach holds → hold_among p holds ≡ Some kind →
    holds_of_kind counted holds ≡ cond (same_kind counted kind) 1 0 + holds_of_kind counted (without p holds)
without_counts counted kind p [] each had = absurd cc
without_counts counted kind p (hold ∷ holds) each had = by_test (without_counts counted kind p holds each.1) (hold.0 == p) refl had
  where
    by_test :
        (hold_among p holds ≡ Some kind → holds_of_kind counted holds ≡ cond (same_kind counted kind) 1 0 + holds_of_kind counted (without p holds)) →
        (b : Bool) → (hold.0 == p) ≡ b → cond b (Some hold.1) (hold_among p holds) ≡ Some kind →
        cond (same_kind counted hold.1) 1 0 + holds_of_kind counted holds ≡ cond (same_kind counted kind) 1 0 + holds_of_kind counted (cond b (without p holds) (hold ∷ without p holds))
    by_test rest true e is =
        let none : hold_among p holds ≡ None = subst (λ q. hold_among q holds ≡ None) (eqb-true hold.0 p e) each.0 in
        let is_kind : hold.1 ≡ kind = cc in
        rw (without_none p holds none, is_kind) refl
    by_test rest false e is = omega (arith, rest is)

-- a hold that is there is counted
pub counted_of : (kind : HoldKind) (p : ℕ) (holds : List Hold) → hold_among p holds ≡ Some kind → 0 < holds_of_kind kind holds
counted_of kind p [] had = absurd cc
counted_of kind p (hold ∷ holds) had = by_test (counted_of kind p holds) (hold.0 == p) had
  where
    counts : (k : HoldKind) → 0 < cond (same_kind k k) 1 0 + holds_of_kind k holds
    counts HoldKind.Read = omega arith
    counts HoldKind.Write = omega arith

    by_test : (hold_among p holds ≡ Some kind → 0 < holds_of_kind kind holds) → (b : Bool) → cond b (Some hold.1) (hold_among p holds) ≡ Some kind → 0 < cond (same_kind kind hold.1) 1 0 + holds_of_kind kind holds
    by_test rest true is =
        let is_kind : hold.1 ≡ kind = cc in
        rw is_kind (counts kind)
    by_test rest false is = omega (arith, rest is)

-- there are as many holds as holds of both kinds
pub both_kinds : (holds : List Hold) → length holds ≡ reads_in holds + writes_in holds
both_kinds [] = refl
both_kinds ((p, HoldKind.Read) ∷ holds) = let rest = both_kinds holds in omega (arith, rest)
both_kinds ((p, HoldKind.Write) ∷ holds) = let rest = both_kinds holds in omega (arith, rest)

-- where no write hold stands, none is the only one
pub unwritten_exclusive : (holds : List Hold) → writes_in holds ≡ 0 → IsExclusive holds
unwritten_exclusive holds unwritten party among = absurd (omega (arith, counted_at holds among.0 among.1 among.2, unwritten))
  where
    counted_at : (hs : List Hold) (k : ℕ) → k < length hs → ◌≡◌ {A = Hold} (get_or {A = Hold} hs k (party, HoldKind.Write)) (party, HoldKind.Write) → 0 < writes_in hs
    counted_at [] k below is = absurd (omega arith)
    counted_at (hold ∷ hs) zero below is =
        let is_write : hold.1 ≡ HoldKind.Write = ap (λ (h : Hold). h.1) is in
        rw is_write (omega arith)
    counted_at (hold ∷ hs) (suc k) below is =
        let rest = counted_at hs k (omega arith) is in
        omega (arith, rest)

-- the one write hold is the only one
pub written_exclusive : (p : ℕ) → IsExclusive ((p, HoldKind.Write) ∷ [])
written_exclusive p = grind (arith, nat_tests, eqb-true, eqb-false)
