-- What holds whenever the rule of a mutex does, and what a step changes in a pass.
use Rattle.std.specs.Prelude.{◌≡◌, ℕ, ◌≤◌, [], ◌∷◌, slice_index}
use Rattle.running_mutex.specs.Names.{State, View, missed, wrote, sum_of, IsCounted, Word, MutexPlace, mutex_table, mutex_model, Played, none_played, both_played, PlaysAndCounts, IsOfARun, Holds, MutexScript, AreHoldsIn, both_holds, no_holds, granted, released}
use mathlib.Core.Option.{some}
use lib.ListN.{get_elem?}

-- what a pass of a mutex is in its model, and counts beside
abbrev pub PlayedMutex : Type 0
PlayedMutex = Played MutexScript MutexPlace ℕ Holds

-- the rule of a mutex holds
abbrev pub IsRuled : State (Unit {0}) (View PlayedMutex) → Type 0
IsRuled s = IsCounted (none_played no_holds) (both_played both_holds) (PlaysAndCounts mutex_model (Word.State ∷ []) (λ _ _ _. Unit {0}) (AreHoldsIn mutex_table)) s

-- All passes are the parties of a run, have the holds that stand after it, and were granted as often as calls were in it. The word is how many
-- holds they have, of which there is one at most.
pub record AreHeld (s : State (Unit {0}) (View PlayedMutex)) : Type 0 where
  pub run : IsOfARun mutex_model (AreHoldsIn mutex_table) (sum_of (none_played no_holds) (both_played both_holds) s.views)
  pub word : slice_index s.words 0 ≡ (sum_of (none_played no_holds) (both_played both_holds) s.views).counts.holds
  pub one : (sum_of (none_played no_holds) (both_played both_holds) s.views).counts.holds ≤ 1

-- so it is whenever the rule holds
abbrev pub GrantsAreOfARun : Type 0
GrantsAreOfARun = (s : State (Unit {0}) (View PlayedMutex)) → IsRuled s → AreHeld s

-- and no two passes have a hold
abbrev pub OneHolder : Type 0
OneHolder = (s : State (Unit {0}) (View PlayedMutex)) → IsRuled s →
    (i j : ℕ) (v w : View PlayedMutex) → get_elem? s.views i ≡ some v → get_elem? s.views j ≡ some w → v.tally.counts.holds ≡ 1 → w.tally.counts.holds ≡ 1 → i ≡ j

abbrev pub locked : View Holds → View Holds
locked v = wrote v (granted v.tally)

abbrev pub unlocked : View Holds → View Holds
unlocked v = wrote v (released v.tally)

-- the mutex was seen locked, by an exchange that failed
abbrev pub saw_locked : View Holds → View Holds
saw_locked v = missed v 0 1
