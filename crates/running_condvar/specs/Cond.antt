-- What the passes of a condition variable's count count, the model that it plays, and that the counts follow the run.
use Rattle.std.specs.Prelude.{ℕ, List, ◌≡◌, ◌+◌, ◌%◌, ◌^◌, if◌then◌else◌, [], ◌∷◌, length, slice_index, Bool, true, false}
use Rattle.running_condvar.specs.Names.{Event, WaitersPlace, KeepsWaiters, Word, Call, State, Pass, View, sum_of, IsCounted, Played, none_played, both_played, PlaysAndCounts, IsOfARun, Act, is_in, is_out, ins_in, outs_in, cond, refl, arith, StaysOnNoWord, GoesOnByActs}
use Rattle.model_events.specs.Integers.{u64_arithmetic}
use Rattle.model_events.specs.Runs.{IsPast}
use Rattle.model_waiters.specs.Table.{waiters_table}
use Rattle.model_waiters.proofs.Laws.{keeps_waiters}
use Rattle.running_model.specs.Models.{Model}
use Rattle.model_condvar.specs.Waiters.{waiting_after}
use Rattle.running_condvar.specs.declared.waits.Waits.{Waits}
use Rattle.running_condvar.specs.declared.waits.WaitersScript.{WaitersScript}
use Rattle.running_passes.specs.Tallies.{IsTally}
use Rattle.running_model.specs.Sums.{pairs_add_up}
use Rattle.running_model.specs.Words.{IsOnNoWord, on_no_word}
use Rattle.std.proofs.lemmas.Bool.Decides.{nat_tests}
use Rattle.std.proofs.lemmas.Bool.{eqb-true, eqb-false}

-- The model that it plays.

abbrev pub waiters_model : Model ℕ WaitersPlace
waiters_model = record { arithmetic = u64_arithmetic; table = waiters_table; law = KeepsWaiters }

-- every run keeps the count's law
pub waiters_lawful : (parties : ℕ) (past : List (Event ℕ)) → IsPast u64_arithmetic waiters_table parties past → KeepsWaiters past
waiters_lawful parties past run = keeps_waiters u64_arithmetic parties past run

-- What a pass counts, and what all passes count together.

abbrev pub waits : ℕ → ℕ → Waits
waits begun ended = record { begun = begun; ended = ended }

abbrev pub no_waits : Waits
no_waits = waits 0 0

abbrev pub both_waits : Waits → Waits → Waits
both_waits t u = waits (t.begun + u.begun) (t.ended + u.ended)

-- a wait is counted in, and out
abbrev pub went_in : Waits → Waits
went_in t = waits (t.begun + 1) t.ended

abbrev pub went_out : Waits → Waits
went_out t = waits t.begun (t.ended + 1)

-- both
abbrev pub one_more : Waits → Waits
one_more t = waits (t.begun + 1) (t.ended + 1)

-- what an act makes of a tally
abbrev pub waits_after : Act ℕ → Call ℕ → Waits → Waits
waits_after act call t = if is_in act then went_in t else (if is_out act then went_out t else t)

-- so many were counted in and out in the run
pub record AreWaitsIn (past : List (Event ℕ)) (t : Waits) : Type 0 where
  pub begun : t.begun ≡ ins_in past
  pub ended : t.ended ≡ outs_in past

-- what a pass of the count is in its model, and counts beside
abbrev pub PlayedWaits : Type 0
PlayedWaits = Played WaitersScript WaitersPlace ℕ Waits

abbrev pub WaitsPass : Type 0
WaitsPass = Pass PlayedWaits

-- the rule of the count holds
abbrev pub IsRuled : State (Unit {0}) (View PlayedWaits) → Type 0
IsRuled s = IsCounted (none_played no_waits) (both_played both_waits) (PlaysAndCounts waiters_model (Word.Waiters ∷ []) (λ _ _ _. Unit {0}) AreWaitsIn) s

-- All passes are the parties of a run, and the word is how many of these wait in it, modulo 2^64: all that were counted in, but those that
-- were counted out.
pub record CountsThoseInside (s : State (Unit {0}) (View PlayedWaits)) : Type 0 where
  pub run : IsOfARun waiters_model AreWaitsIn (sum_of (none_played no_waits) (both_played both_waits) s.views)
  pub word : slice_index s.words 0 ≡ length (waiting_after run.past) % 2 ^ 64
  pub inside : (sum_of (none_played no_waits) (both_played both_waits) s.views).counts.begun ≡ (sum_of (none_played no_waits) (both_played both_waits) s.views).counts.ended + length (waiting_after run.past)

-- so it is whenever the rule holds
abbrev pub CountIsInside : Type 0
CountIsInside = (s : State (Unit {0}) (View PlayedWaits)) → IsRuled s → CountsThoseInside s

-- What the passes count adds up, and follows the run.

pub waits_add_up : IsTally no_waits both_waits (λ _. no_waits)
waits_add_up = pairs_add_up waits (λ t. t.begun) (λ t. t.ended) (λ n m. refl) (λ n m. refl) (λ t. refl)

-- an act on no word counts nothing
abbrev CountsNone : Act ℕ → Type 0
CountsNone act = (is_in act ≡ false) × (is_out act ≡ false)

counts_none : (act : Act ℕ) → IsOnNoWord act → CountsNone act
counts_none = on_no_word CountsNone (λ call. (refl, refl)) (λ action. (refl, refl)) (λ choice. (refl, refl)) (λ wake. (refl, refl)) (refl, refl) (λ value. (refl, refl))

pub waits_stay : StaysOnNoWord AreWaitsIn
waits_stay = grind (arith, nat_tests, eqb-true, eqb-false, counts_none)

-- no act counts in and out
not_both : (act : Act ℕ) → is_in act ≡ true → is_out act ≡ false
not_both act in_too = grind (arith)

-- an act that counts in, or out, or neither
counts_more : (goes_in goes_out : Bool) (t rest : Waits) (begun ended : ℕ) → (goes_in ≡ true → goes_out ≡ false) → t.begun + rest.begun ≡ begun → t.ended + rest.ended ≡ ended →
    ((cond goes_in (went_in t) (cond goes_out (went_out t) t)).begun + rest.begun ≡ cond goes_in 1 0 + begun) × ((cond goes_in (went_in t) (cond goes_out (went_out t) t)).ended + rest.ended ≡ cond goes_out 1 0 + ended)
counts_more goes_in goes_out t rest begun ended h1 h2 h3 = grind (arith, nat_tests, eqb-true, eqb-false)

pub waits_go_on : GoesOnByActs waiters_model both_waits AreWaitsIn (λ _ _. waits_after) (λ _ _. Unit {0})
waits_go_on = grind (arith, nat_tests, eqb-true, eqb-false, counts_more, not_both)
