-- What the tries of a writer at a reader-preferring lock come to.
use Rattle.running_rw_reader.proofs.Names.{Bor, Shared, WaitAction, View, sights_of, HasAsked, HasMoved, WasRefused, WasRefusedAt, HasGivenUp, Holds, ◌≡◌, ◌≢◌, ℕ, ◌+◌, Bool, false, MatchBool, ap, arith, missed_once, refused_by, told_after, asked_after, RwReaderPass, IsTaken, EntersToWrite, HasEnteredToWrite, HasSeenTaken, nat_tests, eqb-true, eqb-false}

one_more : (p q : RwReaderPass) → HasSeenTaken p q → (sights_of q).count ≡ (sights_of p).count + 1
one_more p q saw = ap (λ (v : View Holds). v.sights.count) saw.2

pub taken_at : (p q : RwReaderPass) (seen : ℕ) → HasSeenTaken p q → (sights_of q).last ≡ seen → seen ≢ 0 → WasRefusedAt IsTaken seen 1 p q
taken_at p q seen saw last taken = let count = one_more p q saw in record { stayed = missed_once 0 _ p q (saw.0, saw.2); looked = record { more = omega (arith, count); refusing = (last, taken) } }

-- its first exchange was refused, and then it entered or gave up
pub ends : {F W : Type 0} (g : Shared F (Bor W × (Bor ℕ × Unit {0})) WaitAction) (wait : F) (seen : ℕ) (b : Bool) (p q r : RwReaderPass) → HasSeenTaken p q → (sights_of q).last ≡ seen → seen ≢ 0 →
    MatchBool b (HasMoved EntersToWrite q r) (WasRefused IsTaken 10001 q r) → (b ≡ false → HasAsked g wait IsTaken 10000 q r) → MatchBool b (HasEnteredToWrite p r) (HasGivenUp g wait IsTaken p r)
ends g wait seen b p q r h1 h2 h3 h4 h5 = grind (arith, nat_tests, eqb-true, eqb-false, asked_after, one_more, refused_by, taken_at, told_after)
