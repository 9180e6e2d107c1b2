-- What holds whenever the rule of a semaphore does, and what a step changes in a pass.
use Rattle.std.specs.Prelude.{◌≡◌, ℕ, ◌+◌, ◌≤◌, ◌<◌, ◌^◌, [], ◌∷◌, slice_index}
use Rattle.running_semaphore.specs.Names.{Word, SemaphorePlace, View, sum_of, IsCounted, Played, none_played, both_played, PlaysAndCounts, IsOfARun, Permits, SemaphoreScript, permits, no_permits, both_permits, value_of, ArePermitsOf, semaphore_model}
use Rattle.atomic_table.specs.Table.{State}

-- what a pass of a semaphore is in its model, and counts beside
abbrev pub PlayedSemaphore : Type 0
PlayedSemaphore = Played SemaphoreScript SemaphorePlace ℕ Permits

-- the rule of a semaphore of this initial value holds
abbrev pub IsRuled : ℕ → State (Unit {0}) (View PlayedSemaphore) → Type 0
IsRuled initial s = IsCounted (none_played no_permits) (both_played both_permits) (PlaysAndCounts (semaphore_model initial) (Word.State ∷ []) (λ _ _ _. Unit {0}) (ArePermitsOf initial)) s

-- All passes are the parties of a run whose acts gave and took what they did. No more was taken than given, and the word is what is left.
pub record AreLeft (initial : ℕ) (s : State (Unit {0}) (View PlayedSemaphore)) : Type 0 where
  pub run : IsOfARun (semaphore_model initial) (ArePermitsOf initial) (sum_of (none_played no_permits) (both_played both_permits) s.views)
  pub enough : (sum_of (none_played no_permits) (both_played both_permits) s.views).counts.taken ≤ (sum_of (none_played no_permits) (both_played both_permits) s.views).counts.given
  pub word : slice_index s.words 0 ≡ value_of (sum_of (none_played no_permits) (both_played both_permits) s.views).counts

-- so it is whenever the rule holds
abbrev pub PermitsAreOfARun : Type 0
PermitsAreOfARun = (initial : ℕ) → initial < 2 ^ 64 → (s : State (Unit {0}) (View PlayedSemaphore)) → IsRuled initial s → AreLeft initial s

-- a permit is taken
abbrev pub took : Permits → Permits
took t = permits t.given (t.taken + 1)

-- so many are posted
abbrev pub gave : ℕ → Permits → Permits
gave n t = permits (t.given + n) t.taken
