use Rattle.std.proofs.Common.{◌≡◌, ℕ, true, ◌<◌}
use Rattle.std.specs.Prelude.{slice_get}
use Rattle.model_own.specs.OneHolder.{fits_row}
use Rattle.model_own.proofs.is_lock.Given as goal

abbrev pub invariant-loop-at : goal.invariant-loop-at
invariant-loop-at l = (i : ℕ) → i < l.at → fits_row l.word l.roles (slice_get l.roles i) (slice_get l.rows i) ≡ true
