-- Tickets that follow one another.
use Rattle.std.specs.Prelude.{ℕ, suc, zero, ◌+◌, List, [], ◌∷◌}

module _ {T : Type 0} where
  -- the tickets of these jobs
  abbrev pub tickets_of : List (ℕ × T) → List ℕ
  tickets_of [] = []
  tickets_of (job ∷ jobs) = job.0 ∷ tickets_of jobs

-- so many tickets that follow one another, the first of which is this
abbrev pub tickets_from : ℕ → ℕ → List ℕ
tickets_from first zero = []
tickets_from first (suc n) = first ∷ tickets_from (first + 1) n
