-- What the looks and exchanges of a call come to that takes a permit.
use Rattle.running_semaphore.proofs.Names.{IsWhole, WaitResult, IfInterrupted, IsSuccess, IsInterrupted, part_of, HasMissed, HasDone, HasOnlySeen, value_of, ◌≡◌, ◌≢◌, ℕ, ◌-◌, Bool, false, Option, Some, None, MatchBool, sym, ap, subst, ◌∙◌, arith, eqb_same, moved_later, took, SemPass, worth_of, nat_tests, eqb-true, eqb-false, SawLast, TookOne, seen_twice, missed_once}
use mathlib.Core.Logic.{dite}
use native.Mathlib.Decide.{ℕ_discrete}

-- what the model's function says of a word, by whether it answers another

pub none_left : (seen : ℕ) (answer : Option ℕ) → (seen ≢ 0 → answer ≡ Some (seen - 1)) → ((rest : ℕ) → answer ≢ Some rest) → seen ≡ 0
none_left seen answer one_less other = dite (ℕ_discrete seen 0) (λ none. none) (λ some. absurd (other (seen - 1) (one_less some)))

pub one_taken : (seen rest : ℕ) (answer : Option ℕ) → (seen ≡ 0 → answer ≡ None) → (seen ≢ 0 → answer ≡ Some (seen - 1)) → answer ≡ Some rest → (seen ≢ 0) × (rest ≡ seen - 1)
one_taken seen rest answer empty one_less is = let some : seen ≢ 0 = λ none. let no = empty none in cc in (some, let less = one_less some in cc)

-- sights

found_worth : (found : ℕ) (p q : SemPass) → HasOnlySeen p q → (IsWhole (part_of q) → found ≡ worth_of q) → IsWhole (part_of p) → found ≡ worth_of p
found_worth found p q stayed exact whole = exact (subst IsWhole (sym stayed.part) whole) ∙ ap value_of stayed.counts

-- an exchange from the value that was just seen found another, as it never does with the whole pass
pub saw_again : (seen found : ℕ) (p q r : SemPass) → SawLast seen p q → HasMissed seen found q r → found ≢ seen → (IsWhole (part_of q) → found ≡ worth_of q) → SawLast found p r
saw_again seen found p q r h1 h2 h3 h4 = grind (arith, nat_tests, eqb-true, eqb-false, eqb_same, seen_twice p q r, missed_once seen found q r, found_worth found p q)

-- no permit was there, or one was taken

pub takes_one : (seen : ℕ) (p q r : SemPass) → SawLast seen p q → seen ≢ 0 → HasDone took q r → TookOne p r
takes_one seen p q r h1 h2 h3 = grind (arith, nat_tests, eqb-true, eqb-false, moved_later)

-- by whether it was taken, how the call answers

pub if_not_taken : {H : Type 0} (b : Bool) (result : WaitResult H) (A : Type 0) → MatchBool b (IsSuccess result) (IsInterrupted result) → (b ≡ false → A) → IfInterrupted result A
if_not_taken b result A h1 h2 = grind (arith, nat_tests, eqb-true, eqb-false)
