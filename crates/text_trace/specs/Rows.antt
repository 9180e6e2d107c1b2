-- The rows of a trace: steps that read the same, one right after the other, are folded into one.
use Rattle.std.specs.Prelude.{ℕ, zero, suc, ◌+◌, ◌-◌, ◌^◌, min, Bool, true, false, ◌&&◌, List, [], ◌∷◌, map, Option, Some, None}
use Rattle.text_trace.specs.Names.{bytes_eq}
use Rattle.text_trace.specs.declared.rows.Row.{Row}
use Rattle.text_trace.specs.Cells.{Texts, texts_of}

-- a row: the numbers of its first and its last step, and what each of them reads
pub record Entry (T : Type 0) : Type 0 where
  pub first : ℕ
  pub last : ℕ
  pub cells : Texts T

abbrev pub entry_of : {T : Type 0} → Row T → Entry T
entry_of row = record { first = row.first; last = row.last; cells = texts_of row.cells }

abbrev pub entries : {T : Type 0} → List (Row T) → List (Entry T)
entries rows = map entry_of rows

abbrev pub texts_same : List (List ℕ) → List (List ℕ) → Bool
texts_same [] [] = true
texts_same (x ∷ xs) (y ∷ ys) = bytes_eq x y && texts_same xs ys
texts_same xs ys = false

-- two steps read the same, but for their numbers: line, party, act, words, holds and call
abbrev pub read_same : {T : Type 0} → Texts T → Texts T → Bool
read_same a b =
    bytes_eq a.line b.line && (bytes_eq a.party b.party && (bytes_eq a.act b.act && (texts_same a.words b.words && (bytes_eq a.holds b.holds && bytes_eq a.call b.call))))

-- steps are counted up to 2^64 - 1
abbrev pub number_after : ℕ → ℕ
number_after number = min (number + 1) (2 ^ 64 - 1)

abbrev pub alone : {T : Type 0} → ℕ → Texts T → Entry T
alone number cells = record { first = number; last = number; cells = cells }

-- a row with one more step
abbrev pub longer : {T : Type 0} → Entry T → Texts T → Entry T
longer row cells = record { first = row.first; last = number_after row.last; cells = cells }

-- the last row, and the next step: in that row where it reads the same, and else in a row of its own
abbrev pub joined : {T : Type 0} → Bool → Entry T → Texts T → List (Entry T)
joined true row cells = longer row cells ∷ []
joined false row cells = row ∷ alone (number_after row.last) cells ∷ []

-- the rows with the next step
abbrev pub added : {T : Type 0} → Texts T → List (Entry T) → List (Entry T)
added cells [] = alone 1 cells ∷ []
added cells (row ∷ []) = joined (read_same row.cells cells) row cells
added cells (row ∷ next ∷ rows) = row ∷ added cells (next ∷ rows)

-- the rows with so many steps that read like this
abbrev pub added_often : {T : Type 0} → ℕ → Texts T → List (Entry T) → List (Entry T)
added_often zero cells rows = rows
added_often (suc times) cells rows = added_often times cells (added cells rows)

-- the rows with these steps, in order
abbrev pub folded : {T : Type 0} → List (Texts T) → List (Entry T) → List (Entry T)
folded [] rows = rows
folded (cells ∷ steps) rows = folded steps (added cells rows)

-- the first rows, so many, and the last
abbrev pub trimmed : {T : Type 0} → ℕ → List (Entry T) → List (Entry T)
trimmed n [] = []
trimmed zero (row ∷ []) = row ∷ []
trimmed zero (row ∷ next ∷ rows) = trimmed zero (next ∷ rows)
trimmed (suc n) (row ∷ rows) = row ∷ trimmed n rows

-- all rows, where it is not said how many
abbrev pub trimmed_to : {T : Type 0} → Option ℕ → List (Entry T) → List (Entry T)
trimmed_to None rows = rows
trimmed_to (Some most) rows = trimmed most rows
