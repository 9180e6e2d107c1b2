-- What a writer's sights and tries come to, one after another.
use Rattle.std.specs.Borrow.{Bor}
use Rattle.std.specs.Fn.{Mut}
use Rattle.running_model.specs.Asked.{AskedOnce}
use Rattle.running_model.proofs.Questions.{one, more}
use Rattle.running_rw_writer.proofs.Names.{WaitAction, AskedCount, AskedCounts, ◌⊎◌, refl, sym, subst, ◌∙◌, true≢false, Sights, Pass, IsSamePass, sights_of, seen, counts_of, counted, wrote, flagged, ◌≡◌, ◌≢◌, ℕ, ◌+◌, ◌-◌, ◌%◌, ◌^◌, ◌<◌, Bool, true, Option, Some, None, arith, eqb-true, eqb-false, nat_tests, HasTried, HasJustSeen, HasMissedIt, MayGiveUp, HasGivenUpWriting, PlayedRwWriter, IsMarked, IsSeenByWriter, Missed, HasPlayedGivingUp, inl, inr}

-- what a function of the lock's model says of a word, by whether it answers another word

pub unmarks_none : (seen : ℕ) (answer : Option ℕ) → (seen % 2 ≡ 1 → seen ≢ 2 ^ 64 - 1 → answer ≡ Some (seen - 1)) → answer ≡ None → ¬ IsMarked seen
unmarks_none seen answer h1 h2 = grind (arith, nat_tests, eqb-true, eqb-false)

-- a writer has seen this
pub sees_it : (p q : Pass PlayedRwWriter) (found : ℕ) (saw : Sights) → saw.count ≡ (sights_of p).count + 1 → saw.last ≡ found → saw.fresh ≡ true → IsSamePass p q → IsSeenByWriter (counted p) found saw (counted q) →
    HasTried 1 p q × HasJustSeen found q
sees_it p q found saw h1 h2 h3 h4 h5 = grind (arith, nat_tests, eqb-true, eqb-false)

-- an exchange from the value that a writer had just seen found another
pub missed_it : (p q : Pass PlayedRwWriter) (seen found : ℕ) → IsSamePass p q → HasJustSeen seen p → Missed seen (counted p) found (counted q) → HasMissedIt found p q
missed_it p q seen found h1 h2 h3 = grind (arith, nat_tests, eqb-true, eqb-false)

-- its exchange put the flag up, or down
pub set_it : (p q : Pass PlayedRwWriter) (n : ℕ) → IsSamePass p q → counted q ≡ wrote (counted p) (flagged n (counts_of p)) → HasTried 0 p q
set_it p q n h1 h2 = grind (arith, nat_tests, eqb-true, eqb-false)

pub took_it : (p q : Pass PlayedRwWriter) → IsSamePass p q → MayGiveUp p → counted q ≡ wrote (counted p) (flagged 0 (counts_of p)) → HasGivenUpWriting 0 p q
took_it p q h1 h2 h3 = grind (arith, nat_tests, eqb-true, eqb-false)

-- tries

pub unchanged : (p q : Pass PlayedRwWriter) → IsSamePass p q → counted q ≡ counted p → HasTried 0 p q
unchanged p q h1 h2 = grind (arith, nat_tests, eqb-true, eqb-false)

pub fewest : (n : ℕ) (p q : Pass PlayedRwWriter) → HasTried n p q → HasTried 0 p q
fewest n p q h1 = grind (arith, nat_tests, eqb-true, eqb-false)

pub tried_again : (m n : ℕ) (p q r : Pass PlayedRwWriter) → HasTried m p q → HasTried n q r → HasTried (m + n) p r
tried_again m n p q r h1 h2 = grind (arith, nat_tests, eqb-true, eqb-false)

-- nothing was counted after it
-- a call that gave up, with less of its wakes
pub gives_up_by : (Woke Less : Type 0) (p q : Pass PlayedRwWriter) → (Woke → Less) → HasPlayedGivingUp Woke p q → HasPlayedGivingUp Less p q
gives_up_by Woke Less p q less (inl over) = inl over
gives_up_by Woke Less p q less (inr wakes) = inr (wakes.0, less wakes.1)

-- Its questions: one before others, or none, and the last.
module _ {F X : Type 0} (g : Mut F (Bor X × (Bor ℕ × Unit {0})) WaitAction) (shown : X) where
  pub asked_on : (f j q : F) (entered : Bool) → (f ≡ j) ⊎ AskedCount g shown f WaitAction.Continue j → AskedCounts g shown j q entered → AskedCounts g shown f q entered
  asked_on f j q entered (inl same) rest = subst (λ x. AskedCounts g shown x q entered) (sym same) rest
  asked_on f j q entered (inr once) (inl none) = inr (once.0, 0, once.1, (λ o. absurd o), one g shown (λ n. n < 2 ^ 64) once.0 _ f q entered ⊥ 0 0 (λ e. absurd (true≢false (sym none.0 ∙ e))) (λ _ o. absurd o) (subst (λ x. AskedOnce g shown f once.0 WaitAction.Continue x) none.1 once.2))
  asked_on f j q entered (inr once) (inr rest) = inr (once.0, 0, once.1, (λ o. absurd o), more g shown (λ n. n < 2 ^ 64) once.0 rest.0 _ f j q entered ⊥ 0 rest.1 0 refl rest.2 (λ o. absurd o) once.2 rest.4)

  pub asked_last : (f q : F) (entered : Bool) → AskedCount g shown f WaitAction.Abort q → AskedCounts g shown f q entered
  asked_last f q entered once = inr (once.0, 0, once.1, (λ o. absurd o), one g shown (λ n. n < 2 ^ 64) once.0 _ f q entered ⊥ 0 0 (λ _. refl) (λ _ o. absurd o) once.2)
