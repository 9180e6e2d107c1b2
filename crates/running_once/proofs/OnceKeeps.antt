-- What a step makes of what a pass saw and knows, and what the run says of it.
use Rattle.running_model.proofs.Words.{hold_at}
use Rattle.running_once.proofs.Names.{carried_out, value_told, MatchBool, Word, Intent, MayStep, Coming, View, total, sum_of, none_played, both_played, core_played, played_add_up, IsSamePass, view, IsShare, Told, sights_of, parties_of, counted, ◌≡◌, ◌≢◌, ℕ, ◌+◌, ◌==◌, Bool, true, ◌||◌, List, [], ◌∷◌, refl, ap, sym, subst, ◌∙◌, arith, Some, HasLooked, others, sum_at, HasDone, sights_after, of_a_run, told_so, missed_so, Runs, once_model, no_runs, both_runs, known_runs, runs_after, AreRunsIn, OnceView, OneClosure, KnownHasEnded, WordTellsClosures, ClosuresAreOfARun, ended, Says, PlayedPass, HasBegun, HasOnlyWaited, IsTaken, runs_add_up, nat_tests, eqb-true, eqb-false}

or_true : (x y : Bool) → x ≡ true → (x || y) ≡ true
or_true x y h1 = grind (arith, nat_tests, eqb-true, eqb-false)

module _ (way : Coming ℕ) (intent : Word → Intent ℕ) (found : ℕ) (p : PlayedPass) (may : MayStep once_model (Word.State ∷ []) way 0 intent (parties_of p)) where
  -- what a step found, the run says
  pub says : ((w : Word) (memory : Word → ℕ) → value_told (carried_out (intent w) memory) ≡ Some (memory w)) → IsShare once_model both_runs AreRunsIn way (view p) found → Says (counted p) found
  says h1 h2 = grind (arith, nat_tests, eqb-true, eqb-false)

-- an exchange of 0 for 1
module _ (way : Coming ℕ) (put found : ℕ) (p q : PlayedPass) (may : MayStep once_model (Word.State ∷ []) way 0 (λ k. Intent.Exchange k 0 put) (parties_of p)) (same : IsSamePass p q)
    (told : Told once_model sights_after runs_after way (parties_of p) found (counted p) (counted q)) where
  pub waits : found ≢ 0 → HasOnlyWaited p q × HasLooked IsTaken 1 (sights_of p) (sights_of q)
  waits other =
      let is = missed_so _ _ _ _ 0 put (parties_of p) may Word.State may.named found runs_after (counted p) (counted q) told other in
      let count = ap (λ (v : View Runs). v.sights.count) is in (
        record { same = same; part = ap (λ (v : View Runs). v.part) is; running = ap (λ (v : View Runs). v.tally.running) is; ended = ap (λ (v : View Runs). v.tally.ended) is; saw = omega (arith, count) },
        record { more = omega (arith, count); refusing = subst IsTaken (sym (ap (λ (v : View Runs). v.sights.last) is)) other },
      )

  pub begins : IsShare once_model both_runs AreRunsIn way (view p) found → MatchBool (found == 0) (HasBegun p q) (HasOnlyWaited p q)
  begins h1 = grind (arith, nat_tests, eqb-true, eqb-false)

pub ends : (way : Coming ℕ) (p q : PlayedPass) → MayStep once_model (Word.State ∷ []) way 0 (λ k. Intent.Store k 2) (parties_of p) → IsSamePass p q → Told once_model sights_after runs_after way (parties_of p) 2 (counted p) (counted q) → HasDone ended p q
ends way p q may same told = (same, told_so _ _ _ _ (λ k. Intent.Store k 2) (parties_of p) may Word.State may.named 2 sights_after runs_after (counted p) (counted q) told)

-- whenever the rule holds

abbrev sum_of_all : List OnceView → Runs
sum_of_all views = (sum_of (none_played no_runs) (both_played both_runs) views).counts

total_begun : (views : List OnceView) → total (λ u. u.tally.counts.running + u.tally.counts.ended) views ≡ (sum_of_all views).running + (sum_of_all views).ended
total_begun [] = refl
total_begun (v ∷ views) = let rest = total_begun views in omega arith

total_ended : (views : List OnceView) → total (λ u. u.tally.counts.ended) views ≡ (sum_of_all views).ended
total_ended [] = refl
total_ended (v ∷ views) = let rest = total_ended views in omega arith

pub one_closure : OneClosure
one_closure s r = let begun = total_begun s.views in let all = r.agree.follows.begun in let one = r.agree.played.law.law.one in omega (arith, begun, all, one)

pub known_has_ended : KnownHasEnded
known_has_ended s r i v here complete =
    let at = sum_at (none_played no_runs) (both_played both_runs) (core_played known_runs) (played_add_up no_runs both_runs known_runs runs_add_up) s.views i v here in
    let known = ap (λ t. t.counts.complete) at in
    total_ended s.views
    ∙ r.agree.follows.known (known ∙ or_true v.tally.counts.complete (others (none_played no_runs) (both_played both_runs) s.views i).counts.complete complete)

pub word_tells : WordTellsClosures
word_tells s r = hold_at (Word.State ∷ []) s.words 0 Word.State _ r.agree.played.hold refl ∙ r.agree.follows.word

pub closures_are_of_a_run : ClosuresAreOfARun
closures_are_of_a_run s r = of_a_run once_model (Word.State ∷ []) (λ _ _ _. Unit {0}) AreRunsIn s.words s.homes (sum_of (none_played no_runs) (both_played both_runs) s.views) r.agree
