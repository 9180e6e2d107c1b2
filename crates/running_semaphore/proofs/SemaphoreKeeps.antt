-- What a step makes of what a pass saw and counts; and where no other pass is left, the word is what its tally comes to.
use Rattle.running_semaphore.proofs.Names.{Word, Call, Intent, carried_out, value_told, SemaphorePlace, semaphore_table, View, missed, wrote, sum_of, Parties, sights_after, Coming, Beginning, MayStep, IsWhole, IsShare, played, none_played, both_played, PlaysAndCounts, Told, SemaphoreScript, Permits, no_permits, both_permits, value_of, permits_after, ArePermitsOf, semaphore_model, ◌≡◌, ◌≢◌, ℕ, ◌+◌, ◌-◌, ◌%◌, ◌^◌, ◌<◌, ◌≤◌, List, [], ◌∷◌, ap, sym, ◌∙◌, refl, Some, arith, PlayedSemaphore, PermitsAreOfARun, took, gave, nat_tests, eqb-true, eqb-false}
use Rattle.model_events.specs.declared.event.Act.{Act}
use Rattle.model_events.specs.declared.event.Event.{Event}
use Rattle.model_events.specs.Past.{word_in}
use Rattle.model_events.specs.Integers.{u64_arithmetic}
use Rattle.model_events.specs.Runs.{IsPast}
use Rattle.model_semaphore.proofs.Laws.{semaphore_tallies}
use Rattle.running_passes.specs.Objects.{HasClosed}
use Rattle.running_model.proofs.Words.{hold_at}
use Rattle.running_model.proofs.OfARun.{of_a_run}
use Rattle.running_model.proofs.Steps.{told_so, found_there, done_so, missed_so}

module _ (initial : ℕ) where
  -- what a step tells, by its act

  pub takes : (way : Coming ℕ) (p : Parties ℕ) (old new found : ℕ) (v w : View Permits) → MayStep (semaphore_model initial) (Word.State ∷ []) way 0 (λ k. Intent.Exchange k old new) p →
      Told (semaphore_model initial) sights_after permits_after way p found v w → found ≡ old → w ≡ wrote v (took v.tally)
  takes way p old new found v w may told hit = done_so _ _ _ _ old new p may Word.State may.named found permits_after v w told hit

  pub misses : (way : Coming ℕ) (p : Parties ℕ) (old new found : ℕ) (v w : View Permits) → MayStep (semaphore_model initial) (Word.State ∷ []) way 0 (λ k. Intent.Exchange k old new) p →
      Told (semaphore_model initial) sights_after permits_after way p found v w → found ≢ old → w ≡ missed v old found
  misses way p old new found v w may told miss = missed_so _ _ _ _ old new p may Word.State may.named found permits_after v w told miss

  pub gives : (p : Parties ℕ) (n found : ℕ) (v w : View Permits) → (may : MayStep (semaphore_model initial) (Word.State ∷ []) (Beginning (Call.Post n)) 0 (λ k. Intent.Add k n) p) →
      Told (semaphore_model initial) sights_after permits_after (Beginning (Call.Post n)) p found v w → w ≡ wrote v (gave n v.tally)
  gives p n found v w may told = told_so _ _ _ _ (λ k. Intent.Add k n) p may Word.State may.named found sights_after permits_after v w told
      ∙ ap (λ (call : Call ℕ). wrote v (permits_after (Act.Add Word.State found ((found + n) % 2 ^ 64)) call v.tally)) (sym may.comes.0)

  -- Where no other pass is left, the word is what the tally comes to.

  -- the word that a run leaves, by what its acts gave and took
  pub record Leaves (t : Permits) (word : ℕ) : Type 0 where
    pub value_is : word ≡ value_of t
    pub enough : t.taken ≤ t.given

  pub leaves : initial < 2 ^ 64 → (parties : ℕ) (past : List (Event ℕ)) (t : Permits) → IsPast u64_arithmetic (semaphore_table initial) parties past → ArePermitsOf initial past t → Leaves t (word_in (semaphore_table initial) past Word.State)
  leaves fits parties past t run is =
      let left = semaphore_tallies u64_arithmetic initial parties fits past run in
      record { value_is = left.0 ∙ sym (ap (λ (p : ℕ × ℕ). (p.0 - p.1) % 2 ^ 64) (λ i. (is.given i, is.taken i))); enough = omega (arith, is.given, is.taken, left.1) }

  -- and so do the calls find it
  module _ (fits : initial < 2 ^ 64) where
    left_there : (intent : Word → Intent ℕ) (way : Coming ℕ) (v : View PlayedSemaphore) (found : ℕ) → ((w : Word) (memory : Word → ℕ) → value_told (carried_out (intent w) memory) ≡ Some (memory w)) →
        MayStep (semaphore_model initial) (Word.State ∷ []) way 0 intent v.tally.parties → IsShare (semaphore_model initial) both_permits (ArePermitsOf initial) way v found → IsWhole v.part → Leaves v.tally.counts found
    left_there intent way v found h1 h2 h3 h4 = grind (arith, nat_tests, eqb-true, eqb-false, found_there, leaves)

    pub loaded_there : (way : Coming ℕ) (v : View PlayedSemaphore) (found : ℕ) → MayStep (semaphore_model initial) (Word.State ∷ []) way 0 (λ w. Intent.Load w) v.tally.parties →
        IsShare (semaphore_model initial) both_permits (ArePermitsOf initial) way v found → IsWhole v.part → Leaves v.tally.counts found
    loaded_there way v found = left_there (λ w. Intent.Load w) way v found (λ w memory. refl)

    pub exchanged_there : (old new : ℕ) (way : Coming ℕ) (v : View PlayedSemaphore) (found : ℕ) → MayStep (semaphore_model initial) (Word.State ∷ []) way 0 (λ w. Intent.Exchange w old new) v.tally.parties →
        IsShare (semaphore_model initial) both_permits (ArePermitsOf initial) way v found → IsWhole v.part → Leaves v.tally.counts found
    exchanged_there old new way v found = left_there (λ w. Intent.Exchange w old new) way v found (λ w memory. refl)

    pub closed_there : (t : Permits) (p : Parties ℕ) (found : ℕ) → HasClosed {S = Unit {0}} (PlaysAndCounts {M = SemaphoreScript} {Q = SemaphorePlace} (semaphore_model initial) (Word.State ∷ []) (λ _ _ _. Unit {0}) (ArePermitsOf initial)) (played p t) 0 found → Leaves t found
    closed_there t p found h1 = grind (arith, nat_tests, eqb-true, eqb-false, hold_at, leaves)

-- whenever the rule holds
pub permits_are_of_a_run : PermitsAreOfARun
permits_are_of_a_run initial fits s r =
    let all : PlayedSemaphore = sum_of (none_played no_permits) (both_played both_permits) s.views in
    let left = leaves initial fits r.agree.played.parties r.agree.played.past all.counts r.agree.played.run r.agree.follows in
    record {
      run = of_a_run (semaphore_model initial) (Word.State ∷ []) (λ _ _ _. Unit {0}) (ArePermitsOf initial) s.words s.homes all r.agree;
      enough = left.enough;
      word = hold_at (Word.State ∷ []) s.words 0 Word.State _ r.agree.played.hold refl ∙ left.value_is;
    }
