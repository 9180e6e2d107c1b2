-- The trace of a text: what is written of it, and its first fault.
use Rattle.std.specs.Prelude.{◌≡◌, ℕ, List, [], ◌∷◌, map, Option, Some, None, Result, Ok, Err, codes, string_bytes}
use Rattle.text_trace.specs.Names.{Event, Arithmetic, after, Configuration, StandsAt, Header, Numerals, FaultyLine, events_in, Walk, lines_walk, opened}
use Rattle.text_trace.specs.declared.rows.Row.{Row}
use Rattle.text_trace.specs.declared.trace.Rows.{Rows}
use Rattle.text_trace.specs.declared.trace.Trace.{Trace}
use Rattle.text_trace.specs.Cells.{Texts, cells_at}
use Rattle.text_trace.specs.Rows.{Entry, entries, folded, trimmed_to}
use Rattle.text_trace.specs.Table.{table}

-- the rows of a text, the titles of its words, and its fault
pub record RowsAndFault (T : Type 0) : Type 0 where
  pub titles : List (List ℕ)
  pub rows : List (Entry T)
  pub fault : Option FaultyLine

-- what is written, and the fault
pub record Written : Type 0 where
  pub bytes : List ℕ
  pub fault : Option FaultyLine

-- as the code tells it
abbrev pub rows_told : {T : Type 0} → Rows T → RowsAndFault T
rows_told found = record { titles = map string_bytes found.titles.items; rows = entries found.rows.items; fault = found.fault }

-- the table of the rows, and the fault after them
unfoldable pub written : {T : Type 0} → RowsAndFault T → Written
written found = record { bytes = table found.titles found.rows; fault = found.fault }

-- where the lines before the first step have a fault
abbrev pub no_rows : {T : Type 0} → FaultyLine → RowsAndFault T
no_rows fault = record { titles = []; rows = []; fault = Some fault }

-- the words of one object have one title
abbrev pub one_title : List (List ℕ)
one_title = codes "word" ∷ []

abbrev pub written_of : Trace → Written
written_of trace = record { bytes = trace.bytes.items; fault = trace.fault }

-- where there is no fault, all was played
abbrev pub unless_fault : Option FaultyLine → Type 0 → Type 0
unless_fault None played = played
unless_fault (Some fault) played = Unit {0}

-- of one object or of several, by the cells that a step has after the events up to its own, newest first
module _ {E S T : Type 0} (event : S → E) (cells : List E → S → Texts T) where
  -- what the steps read, after the events so far
  abbrev pub cells_along : List E → List S → List (Texts T)
  cells_along past [] = []
  cells_along past (step ∷ steps) = cells (event step ∷ past) step ∷ cells_along (event step ∷ past) steps

  -- the rows with those of further steps
  abbrev pub rows_with : List E → List S → List (Entry T) → List (Entry T)
  rows_with past steps rows = folded (cells_along past steps) rows

  -- the rows of the steps were added, as far as they are kept, and the fault after them is told
  abbrev pub Adds : Option ℕ → List E → List S → Option FaultyLine → List (Row T) → List (Row T) → Option FaultyLine → Type 0
  Adds most past steps fault old new told = (trimmed_to most (entries new) ≡ trimmed_to most (rows_with past steps (entries old))) × (told ≡ fault)

abbrev pub HasPlayed : {T : Type 0} → Arithmetic T → Header T → List (Event T) → Walk T → Configuration T → Option FaultyLine → Type 0
HasPlayed z header past walk machine fault = unless_fault fault (StandsAt z header.object header.parties (after (events_in walk.steps) past) machine)

module _ {T : Type 0} (z : Arithmetic T) (numerals : Numerals T) where
  abbrev pub HasAdded : Option ℕ → Header T → List (Event T) → Walk T → List (Row T) → List (Row T) → Option FaultyLine → Type 0
  HasAdded most header past walk = Adds (λ step. step.event) (cells_at z numerals header) most past walk.steps walk.fault

  abbrev pub rows_of_walk : Header T → Walk T → RowsAndFault T
  rows_of_walk header walk = record { titles = one_title; rows = rows_with (λ step. step.event) (cells_at z numerals header) [] walk.steps []; fault = walk.fault }

  -- where the first line opens no object there is no row
  abbrev pub rows_of_opened : Result ((Header T) × List (List ℕ)) FaultyLine → RowsAndFault T
  rows_of_opened (Ok found) = rows_of_walk found.0 (lines_walk z numerals found.0.object found.0.parties 2 found.1 [])
  rows_of_opened (Err fault) = record { titles = one_title; rows = []; fault = Some fault }

  unfoldable pub rows_of : List (List ℕ) → RowsAndFault T
  rows_of lines = rows_of_opened (opened numerals lines)

  -- the table of the rows, up to the end of the text or its first fault, and that fault
  abbrev pub typed_trace : List (List ℕ) → Written
  typed_trace lines = written (rows_of lines)
