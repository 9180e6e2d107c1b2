-- What is played of a lock is a run of its table, and the lock is where that has led.
use Rattle.std.specs.Prelude.{◌≡◌, ℕ, ◌-◌, ◌^◌, min, List, [], ◌∷◌, Some, slice_get}
use Rattle.model_events.specs.Exports.{Table, u64_arithmetic, word_in, failures_in, hold_among}
use Rattle.model_own.specs.Holds.{IsOwnPast, own_holds}
use Rattle.model_own.specs.Rows.{own_table}
use Rattle.own_play.specs.Names.{Event, Word, word_at, OwnPlace, opening_in, entries_of, Lock}
use Rattle.own_play.specs.Machine.{State, start}
use Rattle.own_play.specs.Walk.{Seen, lines_walk}
use Rattle.own_play.specs.declared.machine.Party.{Party}

abbrev pub table_in : Lock → Table ℕ OwnPlace
table_in lock = own_table (opening_in lock.opening) (entries_of lock.calls) lock.rows

-- these events are a run of the lock, which has led there: its words, who holds it by its rows, and how many exchanges failed
pub record LeadsTo (lock : Lock) (parties : ℕ) (past : List (Event ℕ)) (s : State) : Type 0 where
  pub run : IsOwnPast u64_arithmetic (opening_in lock.opening) (entries_of lock.calls) lock.rows parties past
  pub words : (word : Word) → word_at s.words word ≡ word_in (table_in lock) past word
  pub holds : (q : ℕ) (party : Party) → slice_get s.parties q ≡ Some party → party.hold ≡ hold_among q (own_holds (table_in lock) lock.rows past)
  pub failed : s.failed ≡ min (failures_in past) (2 ^ 64 - 1)

-- so do the events up to each step
abbrev pub AreRun : Lock → ℕ → List (Event ℕ) → List Seen → Type 0
AreRun lock parties past [] = Unit {0}
AreRun lock parties past (seen ∷ steps) = LeadsTo lock parties (seen.step.event ∷ past) seen.after × AreRun lock parties (seen.step.event ∷ past) steps

-- of any lock, parties and lines that play it
abbrev pub WalksAreRuns : Type 0
WalksAreRuns = (lock : Lock) (parties line : ℕ) (lines : List (List ℕ)) → AreRun lock parties [] (lines_walk lock line lines (start lock parties)).steps
