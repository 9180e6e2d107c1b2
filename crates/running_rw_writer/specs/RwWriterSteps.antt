-- What holds whenever the rule of a writer-preferring lock does, and what a step changes in a pass.
use Rattle.std.specs.Prelude.{◌≡◌, ◌≢◌, ℕ, ◌+◌, ◌-◌, ◌*◌, ◌%◌, ◌^◌, ◌<◌, [], ◌∷◌, slice_index}
use Rattle.running_rw_writer.specs.Names.{Word, RwWriterPlace, rw_writer_model, Part, Sights, View, IsWhole, Each, seen_instead, view_of, wrote, IsCounted, sum_of, none_played, both_played, PlaysAndCounts, IsOfARun, MarkedHolds, read_holds, write_holds, no_holds, nothing_marked, both_marked, written, lowered, AreMarkedIn, IsMarkedOrHeld}
use mathlib.Core.Option.{some}
use lib.ListN.{get_elem?}
use Rattle.atomic_table.specs.Table.{State}
use Rattle.running_model.specs.declared.played.Played.{Played}
use Rattle.running_rw_writer.specs.declared.marked.RwWriterScript.{RwWriterScript}

-- what a pass of a writer-preferring lock is in its model, and counts beside
abbrev pub PlayedRwWriter : Type 0
PlayedRwWriter = Played RwWriterScript RwWriterPlace ℕ MarkedHolds

-- what all passes are and count together
abbrev pub all_in : State (Unit {0}) (View PlayedRwWriter) → PlayedRwWriter
all_in s = sum_of (none_played nothing_marked) (both_played both_marked) s.views

-- the rule of a lock holds
abbrev pub IsRuled : State (Unit {0}) (View PlayedRwWriter) → Type 0
IsRuled s = IsCounted (none_played nothing_marked) (both_played both_marked) (PlaysAndCounts rw_writer_model (Word.State ∷ Word.Counter ∷ []) (λ _ _ _. Unit {0}) AreMarkedIn) s

-- All passes are the parties of a run, have the holds that stand after it, and were granted as many of each kind as calls were in it. The word
-- is what these come to, and the mark.
pub record AreMarked (s : State (Unit {0}) (View PlayedRwWriter)) : Type 0 where
  pub run : IsOfARun rw_writer_model AreMarkedIn (all_in s)
  pub word : IsMarkedOrHeld (slice_index s.words 0) (all_in s).counts

-- so it is whenever the rule holds
abbrev pub GrantsAreOfARun : Type 0
GrantsAreOfARun = (s : State (Unit {0}) (View PlayedRwWriter)) → IsRuled s → AreMarked s

-- and no pass has a hold where another has a write hold
abbrev pub NoHoldBesideTheWriter : Type 0
NoHoldBesideTheWriter = (s : State (Unit {0}) (View PlayedRwWriter)) → IsRuled s → (i j : ℕ) (v w : View PlayedRwWriter) → get_elem? s.views i ≡ some v → get_elem? s.views j ≡ some w
    → write_holds v.tally.counts.held ≡ 1 → 0 < read_holds w.tally.counts.held + write_holds w.tally.counts.held → i ≡ j

-- the mark is set on the word: it is odd, and does not say that a writer is in
pub record IsMarked (word : ℕ) : Type 0 where
  pub odd : word % 2 ≡ 1
  pub unwritten : word ≢ 2 ^ 64 - 1

-- whenever the rule holds, and no pass has its flag up, the mark is not set
abbrev pub NoMarkWithoutAFlag : Type 0
NoMarkWithoutAFlag = (s : State (Unit {0}) (View PlayedRwWriter)) → IsRuled s → Each (λ v. v.tally.counts.flags ≡ 0) s.views → ¬ IsMarked (slice_index s.words 0)

-- the word where no other pass has counted anything, and no flag is up
abbrev pub word_of : MarkedHolds → ℕ
word_of t = 2 * read_holds t.held + write_holds t.held * (2 ^ 64 - 1)

-- no other pass is left, and the flag is down
abbrev pub IsOnly : Part → MarkedHolds → Type 0
IsOnly part t = IsWhole part × (t.flags ≡ 0)

-- then the word is what the pass's holds come to
abbrev pub SaysAlone : View MarkedHolds → ℕ → Type 0
SaysAlone v found = IsOnly v.part v.tally → found ≡ word_of v.tally

-- a writer has seen this: where the mark is not set, its flag is down, and nothing else changed
abbrev pub IsSeenByWriter : View MarkedHolds → ℕ → Sights → View MarkedHolds → Type 0
IsSeenByWriter v found saw w = w ≡ view_of v.part saw (lowered found v.tally)

-- an exchange by a writer, from a value that it did not find
abbrev pub Missed : ℕ → View MarkedHolds → ℕ → View MarkedHolds → Type 0
Missed from v found w = IsSeenByWriter v found (seen_instead v.sights from found) w

-- An exchange of 0 or 1 for 2 ^ 64 - 1. It turned the write hold on, where the pass had no hold, and put the flag down; or it saw
-- another value.
pub record WriterIn (from : ℕ) (v : View MarkedHolds) (found : ℕ) (w : View MarkedHolds) : Type 0 where
  pub done : found ≡ from → (v.tally.held ≡ no_holds) × (w ≡ wrote v (written v.tally))
  pub failed : found ≢ from → Missed from v found w
  pub alone : SaysAlone v found

-- a load of the wake counter, or an add to it: the pass knows no more
abbrev pub Unchanged : View MarkedHolds → View MarkedHolds → Type 0
Unchanged v w = w ≡ v
