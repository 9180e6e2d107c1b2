-- What a step of a lock with one holder at most tells of the pass that makes it.
use Rattle.model_events.specs.Past.{holds_of}
use Rattle.model_events.specs.declared.event.Call.{Call}
use Rattle.model_events.specs.declared.event.Word.{Word}
use Rattle.running_model.specs.Models.{Model}
use Rattle.std.specs.Prelude.{◌==◌, ◌≤◌, true, length}
use Rattle.std.proofs.Common.{◌≡◌, ℕ, [], ◌∷◌, ap, ◌∙◌, arith}
use Rattle.std.specs.Prelude.{Some, MatchBool}
use Rattle.model_events.specs.Rows.{carried_out, value_told}
use Rattle.model_events.specs.declared.row.Intent.{Intent}
use Rattle.running_passes.specs.Views.{view_of, wrote}
use Rattle.running_passes.specs.declared.part.Sights.{Sights}
use Rattle.running_passes.specs.declared.view.View.{View}
use Rattle.running_model.specs.declared.played.Played.{Played}
use Rattle.running_model.specs.Passes.{IsShare, Told, counted_in}
use Rattle.running_passes.specs.Parts.{IsWhole}
use Rattle.running_model.specs.Plays.{Coming, MayStep}
use Rattle.running_model.specs.Sees.{sights_after}
use Rattle.running_model.proofs.Steps.{told_so, found_there, by_zero}
use Rattle.running_for_one.specs.declared.Holds.{Holds}
use Rattle.running_for_one.specs.ForOne.{both_holds, granted, holds_after, AreHoldsIn, IsForOne, word_is_held}
use Rattle.std.proofs.lemmas.Bool.Decides.{nat_tests}
use Rattle.std.proofs.lemmas.Bool.{eqb-true, eqb-false}

-- what an act on the lock's word makes of what its pass saw and counts, which found this there
abbrev pub made_by : (Word → Intent ℕ) → Call ℕ → ℕ → View Holds → View Holds
made_by intent call found v = view_of v.part (sights_after (carried_out (intent Word.State) (λ _. found)) v.sights) (holds_after (carried_out (intent Word.State) (λ _. found)) call v.tally)

-- a try: one that found 0 grants, and of one that found 1 this is seen
pub record IsTry (intent : Word → Intent ℕ) (see : Sights → Sights) : Type 0 where
  pub tells : (w : Word) (memory : Word → ℕ) → value_told (carried_out (intent w) memory) ≡ Some (memory w)
  pub grants : (call : Call ℕ) (v : View Holds) → made_by intent call 0 v ≡ wrote v (granted v.tally)
  pub sees : (call : Call ℕ) (v : View Holds) → made_by intent call 1 v ≡ view_of v.part (see v.sights) v.tally

module _ {M Q P : Type 0} (m : Model ℕ P) (lock : IsForOne m) (intent : Word → Intent ℕ) (see : Sights → Sights) (is_try : IsTry intent see) (way : Coming ℕ) (found : ℕ) (v : View (Played M Q ℕ Holds))
    (may : MayStep m (Word.State ∷ []) way 0 intent v.tally.parties) where
  module _ (s : IsShare m both_holds (AreHoldsIn m.table) way v found) where
    -- what it found is how many holds stood
    held_there : (found ≡ length (holds_of m.table s.past)) × (found ≤ 1)
    held_there = grind (arith, nat_tests, eqb-true, eqb-false, found_there, word_is_held)

    -- So where it found 0, the pass's own hold was off.
    pub tried : (w : View (Played M Q ℕ Holds)) → Told m sights_after holds_after way v.tally.parties found (counted_in v) (counted_in w) →
        MatchBool (found == 0) ((v.tally.counts.holds ≡ 0) × (counted_in w ≡ wrote (counted_in v) (granted v.tally.counts))) (counted_in w ≡ view_of v.part (see v.sights) v.tally.counts)
    tried w told =
        let all = s.says.holds in
        let so : counted_in w ≡ made_by intent may.call found (counted_in v) = told_so m (Word.State ∷ []) way 0 intent v.tally.parties may Word.State may.named found sights_after holds_after (counted_in v) (counted_in w) told in
        by_zero found _ _
        (λ free. (omega (arith, all, held_there.0, free), so ∙ ap (λ n. made_by intent may.call n (counted_in v)) free ∙ is_try.grants may.call (counted_in v)))
        (λ other. let is_1 : found ≡ 1 = omega (arith, held_there.1, other) in so ∙ ap (λ n. made_by intent may.call n (counted_in v)) is_1 ∙ is_try.sees may.call (counted_in v))

    -- where no other pass is left, only its own can be on
    pub tried_alone : IsWhole v.part → v.tally.counts.holds ≡ 0 → (found == 0) ≡ true
    tried_alone h1 h2 = grind (arith, nat_tests, eqb-true, eqb-false, held_there)
