-- What the tries of a `lock` come to, one after another.
use Rattle.running_mutex.proofs.Names.{Bor, WaitAction, View, IsWhole, part_of, sights_of, HasMoved, WasRefused, Holds, ◌≡◌, ℕ, ◌+◌, Bool, false, MatchBool, true≢false, ◌∙◌, sym, ap, subst, arith, MutexPass, HasAskedToLock, IsLocked, IsAlone, Enters, HasLocked, HasSeenLocked, HasUnlocked, HasEntered, nat_tests, eqb-true, eqb-false}
use Rattle.running_model.proofs.Attempts.{missed_once, told_after}
use Rattle.running_model.specs.Asked.{AskedAfter}
use Rattle.std.specs.Fn.{Mut}
use Rattle.std.proofs.Common.{inl, inr}

pub locks_once : (p q : MutexPass) → HasLocked p q → HasEntered p q
locks_once p q h1 = grind (arith, nat_tests, eqb-true, eqb-false)

pub sees_once : (p q : MutexPass) → HasSeenLocked p q → (sights_of q).count ≡ (sights_of p).count + 1
sees_once p q saw = ap (λ (v : View Holds). v.sights.count) saw.1

pub refused_once : (p q : MutexPass) → HasSeenLocked p q → WasRefused IsLocked 1 p q
refused_once p q saw = let count = sees_once p q saw in record { stayed = missed_once 0 1 p q saw; looked = record { more = omega (arith, count); refusing = ap (λ (v : View Holds). v.sights.last) saw.1 } }

-- the first exchange was refused, and then it entered or was refused again
pub ends : (b : Bool) (p q r : MutexPass) → HasSeenLocked p q → MatchBool b (HasMoved Enters q r) (WasRefused IsLocked 10001 q r) → MatchBool b (HasEntered p r) (WasRefused IsLocked 10002 p r)
ends b p q r h1 h2 = grind (arith, nat_tests, eqb-true, eqb-false, refused_once, told_after)

later : (s l m n : ℕ) → m ≡ l + 1 → s ≡ m + n → s ≡ l + (1 + n)
later s l m n h1 h2 = omega (arith, h1, h2)

-- so one look was made before the others
pub asks_to_lock : {F X : Type 0} (g : Mut F (Bor X × (Bor ℕ × Unit {0})) WaitAction) (IsOf : X → Type 0) (shown : X) (wait after : F) (locked : Bool) (p q r : MutexPass) → IsOf shown → HasSeenLocked p q →
    AskedAfter g shown IsLocked 10000 wait after locked (Unit {0}) (sights_of q).count (sights_of r).count → HasAskedToLock g IsOf wait after locked p r
asks_to_lock g IsOf shown wait after locked p q r is saw (inl soon) = inl soon
asks_to_lock g IsOf shown wait after locked p q r is saw (inr a) = inr (shown, is, inr (a.0, a.1, a.2, λ o. later a.1 (sights_of p).count (sights_of q).count 10000 (sees_once p q saw) (a.3 o), a.4))

-- where it did not lock, it asked
pub questions : {F X : Type 0} (g : Mut F (Bor X × (Bor ℕ × Unit {0})) WaitAction) (IsOf : X → Type 0) (wait after : F) (locked : Bool) (p q : MutexPass) → HasAskedToLock g IsOf wait after locked p q → locked ≡ false → (word : X) × IsOf word × AskedAfter g word IsLocked 10001 wait after locked (Unit {0}) (sights_of p).count (sights_of q).count
questions g IsOf wait after locked p q (inl soon) not = absurd (true≢false (sym soon.0 ∙ not))
questions g IsOf wait after locked p q (inr asked) not = asked

-- the hold, once it is off again
pub alone_again : (p q : MutexPass) → HasUnlocked p q → IsWhole (part_of p) → IsAlone q
alone_again p q off whole = (subst IsWhole (sym (ap (λ (v : View Holds). v.part) off.2)) whole, ap (λ (v : View Holds). v.tally.holds) off.2)
