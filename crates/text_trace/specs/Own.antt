-- The rows of a text that begins with the table of a lock of one's own.
use Rattle.std.specs.Prelude.{ℕ, zero, suc, ◌+◌, List, [], ◌∷◌, ◌++◌, length, map, slice_get, Option, Some, None, Result, Ok, Err, codes}
use Rattle.std.specs.Str.Lossy.{utf8_lossy}
use Rattle.text_trace.specs.Names.{decimal, Act, Word, Object, HoldKind, FaultyLine}
use Rattle.model_events.specs.declared.words.Words.{Words}
use Rattle.own_play.specs.Output.{Begun, value_at, begun_in, begun_walk}
use Rattle.own_play.specs.Walk.{Seen, Walk}
use Rattle.own_play.specs.declared.machine.Party.{Party}
use Rattle.text_lines.specs.Numerals.{u64_numerals}
use Rattle.text_trace.specs.Cells.{Texts, standing_words, with_holder, or_dash}
use Rattle.text_trace.specs.Printing.{number_words, said_words, told_words}
use Rattle.text_trace.specs.Rows.{Entry, folded}
use Rattle.text_trace.specs.Table.{text_at}
use Rattle.text_trace.specs.Trace.{RowsAndFault, no_rows}

-- the place of a word among those that a table names
abbrev pub place_of : Word → ℕ
place_of Word.State = 0
place_of Word.Counter = 1
place_of Word.Waiters = 2
place_of Word.Value = 3
place_of Word.Low = 4
place_of Word.High = 5

abbrev pub verb_words : List (List ℕ) → List ℕ → Word → List ℕ
verb_words names verb word = verb ++ (codes " " ++ text_at names (place_of word))

-- what an act does to which word, if it does
abbrev pub access_words : List (List ℕ) → Act ℕ → List ℕ
access_words names (Act.Load word seen) = verb_words names (codes "load") word
access_words names (Act.Store word put) = verb_words names (codes "store") word
access_words names (Act.Swap word old put) = verb_words names (codes "swap") word
access_words names (Act.Add word old put) = verb_words names (codes "add") word
access_words names (Act.Exchange word from to found done) = verb_words names (codes "exchange") word
access_words names act = []

-- what a step did, as one of the ten objects says it, and on which word, by its name
abbrev pub act_words : List (List ℕ) → Act ℕ → List ℕ
act_words names act = access_words names act ++ (number_words act ++ (said_words act ++ told_words u64_numerals act))

abbrev pub hold_in : Option Party → Option HoldKind
hold_in None = None
hold_in (Some party) = party.hold

abbrev pub hold_at : List Party → ℕ → Option HoldKind
hold_at parties k = hold_in (slice_get parties k)

-- those of the first parties that hold it, each with the kind of its hold
abbrev pub holders : List Party → ℕ → List ℕ
holders parties zero = []
holders parties (suc k) = with_holder {T = ℕ} Object.ReaderLock [] (holders parties k) k (hold_at parties k)

-- what the first words hold, so many
abbrev pub values : Words → ℕ → List (List ℕ)
values words zero = []
values words (suc k) = values words k ++ decimal (value_at words k) ∷ []

-- the cells of a step, by the lock after it
abbrev pub cells_at : List (List ℕ) → Seen → Texts ℕ
cells_at names seen =
    record {
      step = seen.step;
      object = 0;
      hold = hold_at seen.after.parties seen.step.event.party;
      line = decimal seen.step.line;
      party = decimal (seen.step.event.party + 1);
      act = act_words names seen.step.event.act;
      words = values seen.after.words (length names);
      holds = or_dash (holders seen.after.parties (length seen.after.parties));
      call = standing_words u64_numerals seen.step.event.act seen.step.event.then;
    }

-- the rows of a walk, behind others, and its fault
abbrev pub traced : List (List ℕ) → Walk → List (Entry ℕ) → RowsAndFault ℕ
traced names walk rows = record { titles = names; rows = folded (map (cells_at names) walk.steps) rows; fault = walk.fault }

-- of the lines behind the one that opens the lock; what is no UTF-8 in a name is shown as U+FFFD
abbrev pub rows_begun : Begun → RowsAndFault ℕ
rows_begun begun = traced (map utf8_lossy begun.lock.names) (begun_walk begun) []

abbrev pub rows_or_fault : Result Begun FaultyLine → RowsAndFault ℕ
rows_or_fault (Ok begun) = rows_begun begun
rows_or_fault (Err fault) = no_rows fault

unfoldable pub rows_of : List (List ℕ) → RowsAndFault ℕ
rows_of lines = rows_or_fault (begun_in lines)
