-- What a step makes of what a pass of the count saw and counts; and where no other pass is left and no wait of its own is there, the count is 0.
use Rattle.running_condvar.proofs.Names.{Word, Intent, Coming, MayStep, Parties, View, looked, wrote, IsWhole, view, part_of, parties_of, counts_of, ◌≡◌, ◌≢◌, ℕ, ◌+◌, ◌-◌, ◌%◌, ◌^◌, [], ◌∷◌, sym, refl, ap, ◌∙◌, arith, ne_eqb, IsShare, Told, sights_after, told_so, found_there, hold_at, waiters_model, WaitsPass, both_waits, went_in, went_out, waits_after, AreWaitsIn, CountIsInside, nat_tests, eqb-true, eqb-false}
use Rattle.std.specs.Prelude.{length}
use Rattle.model_events.proofs.Holds.{eqb_same}
use Rattle.model_condvar.specs.Waiters.{waiting_after}
use Rattle.running_condvar.specs.declared.waits.Waits.{Waits}

-- what a step tells, by its act

pub loads : (way : Coming ℕ) (p : Parties ℕ) (found : ℕ) (v w : View Waits) → MayStep waiters_model (Word.Waiters ∷ []) way 0 (λ k. Intent.Load k) p →
    Told waiters_model sights_after waits_after way p found v w → w ≡ looked v found
loads way p found v w may told = told_so _ _ _ _ (λ k. Intent.Load k) p may Word.Waiters may.named found sights_after waits_after v w told

pub counts_in : (way : Coming ℕ) (p : Parties ℕ) (found : ℕ) (v w : View Waits) → MayStep waiters_model (Word.Waiters ∷ []) way 0 (λ k. Intent.Add k 1) p →
    Told waiters_model sights_after waits_after way p found v w → w ≡ wrote v (went_in v.tally)
counts_in way p found v w h1 h2 = grind (arith, nat_tests, eqb-true, eqb-false, eqb_same, told_so)

other_way : (n : ℕ) → ((n + (2 ^ 64 - 1)) % 2 ^ 64) ≢ ((n + 1) % 2 ^ 64)
other_way n same = absurd (omega (arith, same))

pub counts_out : (way : Coming ℕ) (p : Parties ℕ) (found : ℕ) (v w : View Waits) → MayStep waiters_model (Word.Waiters ∷ []) way 0 (λ k. Intent.Subtract k 1) p →
    Told waiters_model sights_after waits_after way p found v w → w ≡ wrote v (went_out v.tally)
counts_out way p found v w h1 h2 = grind (arith, nat_tests, eqb-true, eqb-false, ne_eqb, other_way, told_so)

-- Where no other pass is left, and no wait of its own is there, the count is 0.

none_left : (begun ended ins outs waiting word : ℕ) → begun ≡ ins → ended ≡ outs → ended ≡ begun → ins ≡ outs + waiting → word ≡ waiting % 2 ^ 64 → word ≡ 0
none_left begun ended ins outs waiting word h1 h2 h3 h4 h5 = omega (arith, h1, h2, h3, h4, h5)

pub none_there : (way : Coming ℕ) (p : WaitsPass) (found : ℕ) → MayStep waiters_model (Word.Waiters ∷ []) way 0 (λ w. Intent.Load w) (parties_of p) →
    IsShare waiters_model both_waits AreWaitsIn way (view p) found → IsWhole (part_of p) → (counts_of p).ended ≡ (counts_of p).begun → found ≡ 0
none_there way p found h1 h2 h3 h4 = grind (arith, nat_tests, eqb-true, eqb-false, found_there, none_left)

-- whenever the rule holds
pub count_is_inside : CountIsInside
count_is_inside s r =
    let played = r.agree.played in
    let follows = r.agree.follows in
    let law = played.law.law.waiters in record {
      run = record { parties = played.parties; past = played.past; run = played.run; law = played.law; each = played.each; follows = follows };
      word = hold_at (Word.Waiters ∷ []) s.words 0 Word.Waiters _ played.hold refl ∙ law.counts;
      inside = follows.begun ∙ law.left ∙ ap (λ (n : ℕ). n + length (waiting_after played.past)) (sym follows.ended);
    }
