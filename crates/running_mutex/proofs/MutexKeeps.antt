-- What a step makes of what a pass saw and counts, and what the run says of it.
use Rattle.running_mutex.proofs.Names.{MatchBool, Word, Intent, mutex_table, mutex_model, Coming, MayStep, IsSamePass, view, parties_of, counted, sum_of, no_holds, both_holds, holds_after, AreHoldsIn, none_played, both_played, core_played, played_add_up, IsShare, Told, sights_after, ◌≡◌, ℕ, ◌==◌, Bool, true, false, [], ◌∷◌, refl, ap, sym, ◌∙◌, arith, told_so, hold_at, holds_add_up, mutex_is_for_one, word_is_held, IsTry, tried, MutexPass, holds_of_pass, HasLocked, HasSeenLocked, HasUnlocked, nat_tests, eqb-true, eqb-false}
use Rattle.running_passes.specs.Sights.{seen_instead}
use Rattle.running_model.proofs.OfARun.{of_a_run}
use mathlib.Core.Logic.{dite}
use native.Mathlib.Decide.{ℕ_discrete}
use Rattle.running_passes.proofs.Sums.{sum_of_two}
use Rattle.running_mutex.specs.MutexSteps.{PlayedMutex, GrantsAreOfARun, OneHolder, locked, saw_locked}

-- an exchange of 0 for 1
pub exchanges : (put : ℕ) → IsTry (λ k. Intent.Exchange k 0 put) (λ s. seen_instead s 0 1)
exchanges put = record { tells = λ w memory. refl; grants = λ call v. refl; sees = λ call v. refl }

module _ (way : Coming ℕ) (put found : ℕ) (p : MutexPass) (may : MayStep mutex_model (Word.State ∷ []) way 0 (λ k. Intent.Exchange k 0 put) (parties_of p)) where
  pub tries : (q : MutexPass) → IsSamePass p q → IsShare mutex_model both_holds (AreHoldsIn mutex_table) way (view p) found → Told mutex_model sights_after holds_after way (parties_of p) found (counted p) (counted q) →
      MatchBool (found == 0) (HasLocked p q) (HasSeenLocked p q)
  tries q same share told = beside_same (found == 0) (tried mutex_model mutex_is_for_one _ _ (exchanges put) way found (view p) may share (view q) told)
    where
      beside_same : (b : Bool) → MatchBool b ((holds_of_pass p ≡ 0) × (counted q ≡ locked (counted p))) (counted q ≡ saw_locked (counted p)) → MatchBool b (HasLocked p q) (HasSeenLocked p q)
      beside_same true is = (same, is.0, is.1)
      beside_same false is = (same, is)

-- a store of 0, by the pass whose hold is on
pub stores : (way : Coming ℕ) (p q : MutexPass) → MayStep mutex_model (Word.State ∷ []) way 0 (λ k. Intent.Store k 0) (parties_of p) → IsSamePass p q → holds_of_pass p ≡ 1 →
    Told mutex_model sights_after holds_after way (parties_of p) 0 (counted p) (counted q) → HasUnlocked p q
stores way p q h1 h2 h3 h4 = grind (arith, nat_tests, eqb-true, eqb-false, told_so)

-- Whenever the rule holds.

pub grants_are_of_a_run : GrantsAreOfARun
grants_are_of_a_run s r =
    let held = word_is_held mutex_model mutex_is_for_one r.agree.played.parties r.agree.played.past r.agree.played.run in record {
      run = of_a_run mutex_model (Word.State ∷ []) (λ _ _ _. Unit {0}) (AreHoldsIn mutex_table) s.words s.homes (sum_of (none_played no_holds) (both_played both_holds) s.views) r.agree;
      word = hold_at (Word.State ∷ []) s.words 0 Word.State _ r.agree.played.hold refl ∙ held.0 ∙ sym r.agree.follows.holds;
      one = r.agree.follows.one;
    }

-- two holds would be more than one
pub one_holder : OneHolder
one_holder s r i j v w here there on also = dite (ℕ_discrete i j) (λ same. same)
    (λ apart. let two = sum_of_two (none_played no_holds) (both_played both_holds) (core_played (λ _. no_holds)) (played_add_up no_holds both_holds (λ _. no_holds) holds_add_up) s.views i j v w here there apart in
    let sum = ap (λ (t : PlayedMutex). t.counts.holds) two.1 in let one = (grants_are_of_a_run s r).one in absurd (omega arith))
