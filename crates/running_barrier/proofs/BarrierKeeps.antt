-- What a step makes of what a pass saw and knows, and what the run says of it.
use Rattle.std.specs.Prelude.{◌*◌}
use Rattle.std.proofs.lemmas.Nat.{div-add-mod'}
use Rattle.running_model.proofs.Words.{hold_at}
use Rattle.running_barrier.specs.Barrier.{word_of}
use Rattle.running_barrier.specs.BarrierSteps.{WordCountsArrivals}
use Rattle.running_barrier.proofs.Names.{sum, Word, Intent, count_of, arrivals_in, full_rounds, View, IsWhole, total, left_view, right_view, joined_view, sum_of, view, parties_of, counted, Coming, MayStep, none_played, both_played, core_played, played_add_up, IsShare, Acted, Rounds, both_counts, in_round, no_rounds, both_rounds, known_rounds, reaching, arrived, rounds_after, AreRounds, AreRoundsIn, barrier_model, ◌≡◌, ℕ, ◌+◌, ◌/◌, ◌%◌, ◌^◌, ◌<◌, List, [], ◌∷◌, Some, sym, refl, ap, ◌∙◌, arith, carried_out, value_told, sights_after, of_a_run, done_so, missed_so, sum_at, in_both, rounds_add_up, sum_cons, sum_more, by_count, again, arrives, BarrierView, ArrivalsAreOfARun, OpenRoundsAreFull, Says, HasAll, Loaded, Arrives, Exchanged, BarrierPass, counts_of, arrivals_of, nat_tests, eqb-true, eqb-false}

sum_both : (xs ys : List ℕ) → sum (both_counts xs ys) ≡ sum xs + sum ys
sum_both [] ys = omega arith
sum_both (x ∷ xs) [] = omega arith
sum_both (x ∷ xs) (y ∷ ys) = let a = sum_cons (x + y) (both_counts xs ys) in let b = sum_cons x xs in let c = sum_cons y ys in let d = sum_both xs ys in omega arith

module _ (n a : ℕ) where
  -- where no other pass is left, this one did all that was done
  all_so : (v w : View Rounds) (u : Rounds) → w.part ≡ v.part → w.tally ≡ u → (IsWhole v.part → AreRounds n a u × (u.reached ≡ a / n)) → HasAll n w
  all_so v w u h1 h2 h3 = grind (arith, nat_tests, eqb-true, eqb-false)

  knows_so : (t : Rounds) → AreRounds n a t → AreRounds n a (reaching (a / n) t) × ((reaching (a / n) t).reached ≡ a / n)
  knows_so t is = (again n a t (reaching (a / n) t) is refl refl (omega arith), refl)

arrives_so : (n from round : ℕ) (t : Rounds) → Arrives n from round t (arrived n from round t)
arrives_so n from round t = grind (arith, nat_tests, eqb-true, eqb-false, by_count, sum_more)

-- a step on the word
module _ (n : ℕ) (fits : n < 2 ^ 32) (way : Coming ℕ) (intent : Word → Intent ℕ) (found : ℕ) (p : BarrierPass) (may : MayStep (barrier_model n) (Word.State ∷ []) way 0 intent (parties_of p))
    (tells : (w : Word) (memory : Word → ℕ) → value_told (carried_out (intent w) memory) ≡ Some (memory w)) (s : IsShare (barrier_model n) both_rounds (AreRoundsIn n) way (view p) found) where
  says : Says n (counted p) found (full_rounds n s.past)
  says = grind (arith, nat_tests, eqb-true, eqb-false)

  count_there : count_of found ≡ arrivals_in s.past % n
  count_there = grind (arith, nat_tests, eqb-true, eqb-false)

pub loads : (n : ℕ) → n < 2 ^ 32 → (way : Coming ℕ) (found : ℕ) (p q : BarrierPass) → MayStep (barrier_model n) (Word.State ∷ []) way 0 (λ k. Intent.Load k) (parties_of p) →
    Acted (barrier_model n) both_rounds (AreRoundsIn n) sights_after (λ past _. rounds_after n past) way (view p) found (view q) → Loaded n (counted p) found (counted q)
loads n h1 way found p q h2 h3 = grind (arith, nat_tests, eqb-true, eqb-false)

pub exchanges : (n : ℕ) → n < 2 ^ 32 → (way : Coming ℕ) (from to found : ℕ) (p q : BarrierPass) → MayStep (barrier_model n) (Word.State ∷ []) way 0 (λ k. Intent.Exchange k from to) (parties_of p) → count_of from < n →
    Acted (barrier_model n) both_rounds (AreRoundsIn n) sights_after (λ past _. rounds_after n past) way (view p) found (view q) → Exchanged n from (counted p) found (counted q)
exchanges n h1 way from to found p q h2 h3 h4 = grind (arith, nat_tests, eqb-true, eqb-false, all_so, arrives, arrives_so, count_there, done_so, knows_so, missed_so, says)

-- Whenever the rule holds, all passes are the parties of a run.

pub arrivals_are_of_a_run : ArrivalsAreOfARun
arrivals_are_of_a_run n s r = of_a_run (barrier_model n) (Word.State ∷ []) (λ _ _ _. Unit {0}) (AreRoundsIn n) s.words s.homes (sum_of (none_played no_rounds) (both_played both_rounds) s.views) r.agree

-- and the word is what they counted come to
pub word_counts : WordCountsArrivals
word_counts n s r =
    let held = hold_at (Word.State ∷ []) s.words 0 Word.State _ r.agree.played.hold refl in
    let is = r.agree.follows in
    held ∙ r.agree.played.law.law.counts ∙ word_so n (arrivals_in r.agree.played.past) (sum_of (none_played no_rounds) (both_played both_rounds) s.views).counts is.all is.opened (div-add-mod' (arrivals_in r.agree.played.past) n)
  where
    word_so : (n a : ℕ) (t : Rounds) → sum t.arrivals ≡ a → t.opened ≡ a / n → a / n * n + a % n ≡ a → a / n % 2 ^ 32 * 2 ^ 32 + a % n ≡ word_of n t
    word_so n a t h1 h2 h3 = grind (arith, nat_tests, eqb-true, eqb-false)

-- the law of open rounds

total_in : (round : ℕ) (views : List BarrierView) → in_round round (sum_of (none_played no_rounds) (both_played both_rounds) views).counts.arrivals ≡ total (λ u. in_round round u.tally.counts.arrivals) views
total_in round [] = refl
total_in round (v ∷ views) = let both = in_both round v.tally.counts.arrivals (sum_of (none_played no_rounds) (both_played both_rounds) views).counts.arrivals in let rest = total_in round views in omega arith

pub open_rounds_are_full : OpenRoundsAreFull
open_rounds_are_full n s r i v here round below =
    let at = sum_at (none_played no_rounds) (both_played both_rounds) (core_played known_rounds) (played_add_up no_rounds both_rounds known_rounds rounds_add_up) s.views i v here in
    let reached = ap (λ t. t.counts.reached) at in let known = r.agree.follows.known in
    sym (total_in round s.views) ∙ r.agree.follows.full round (omega arith)

-- what a split and a join leave of the arrivals

pub parted_arrivals : (p one other : BarrierPass) → (view one ≡ left_view (view p)) × (view other ≡ right_view (core_played known_rounds) (view p)) → arrivals_of one + arrivals_of other ≡ arrivals_of p
parted_arrivals p one other views = let first = ap (λ (v : BarrierView). sum v.tally.counts.arrivals) views.0 in let second = ap (λ (v : BarrierView). sum v.tally.counts.arrivals) views.1 in omega arith

pub joined_arrivals : (one other both : BarrierPass) → view both ≡ joined_view (both_played both_rounds) (view one) (view other) → arrivals_of both ≡ arrivals_of one + arrivals_of other
joined_arrivals one other both views = ap (λ (v : BarrierView). sum v.tally.counts.arrivals) views ∙ sum_both (counts_of one) (counts_of other)
