-- What holds whenever the rule of a reader-preferring lock does, and what a step changes in a pass.
use Rattle.std.specs.Prelude.{◌≡◌, ℕ, ◌+◌, ◌-◌, ◌*◌, ◌^◌, ◌<◌, [], ◌∷◌, slice_index}
use Rattle.running_rw_reader.specs.Names.{Word, RwReaderPlace, rw_reader_table, rw_reader_model, View, sum_of, IsCounted, none_played, both_played, PlaysAndCounts, IsOfARun, read_holds, write_holds, Locks, Holds, AreHoldsIn, both_holds, no_holds}
use mathlib.Core.Option.{some}
use lib.ListN.{get_elem?}
use Rattle.atomic_table.specs.Table.{State}
use Rattle.running_model.specs.declared.played.Played.{Played}
use Rattle.running_rw_hold.specs.declared.rw_reader.RwReaderScript.{RwReaderScript}

-- what a pass of a reader-preferring lock is in its model, and counts beside
abbrev pub PlayedRwReader : Type 0
PlayedRwReader = Played RwReaderScript RwReaderPlace ℕ Holds

-- the rule of a lock holds
abbrev pub IsRuled : State (Unit {0}) (View PlayedRwReader) → Type 0
IsRuled s = IsCounted (none_played no_holds) (both_played both_holds) (PlaysAndCounts rw_reader_model (Word.State ∷ []) (λ _ _ _. Unit {0}) (AreHoldsIn rw_reader_table)) s

-- All passes are the parties of a run, and have as many holds of each kind as calls have in it. The word is what these come to.
pub record AreHeld (s : State (Unit {0}) (View PlayedRwReader)) : Type 0 where
  pub run : IsOfARun rw_reader_model (AreHoldsIn rw_reader_table) (sum_of (none_played no_holds) (both_played both_holds) s.views)
  pub locks : Locks (slice_index s.words 0) tt (sum_of (none_played no_holds) (both_played both_holds) s.views).counts

-- so it is whenever the rule holds
abbrev pub HoldsAreOfARun : Type 0
HoldsAreOfARun = (s : State (Unit {0}) (View PlayedRwReader)) → IsRuled s → AreHeld s

-- and no pass has a hold where another has a write hold
abbrev pub NoHoldBesideAWriteHold : Type 0
NoHoldBesideAWriteHold = (s : State (Unit {0}) (View PlayedRwReader)) → IsRuled s → (i j : ℕ) (v w : View PlayedRwReader) → get_elem? s.views i ≡ some v → get_elem? s.views j ≡ some w
    → write_holds v.tally.counts ≡ 1 → 0 < read_holds w.tally.counts + write_holds w.tally.counts → i ≡ j

-- the word where no other pass has counted anything
abbrev pub word_of : Holds → ℕ
word_of t = read_holds t + write_holds t * (2 ^ 64 - 1)
