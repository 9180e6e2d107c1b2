-- The lines of a table: what each adds to what was read before it.
use Rattle.std.specs.Prelude.{ℕ, ◌+◌, ◌-◌, ◌^◌, ◌==◌, Bool, true, false, ◌&&◌, ◌||◌, is_none, is_some, List, [], ◌∷◌, ◌++◌, length, map, Option, Some, None, Result, Ok, Err, codes, if◌then◌else◌}
use Rattle.std.specs.Borrow.{Bor}
use Rattle.text_own.specs.Names.{bytes_eq, lines_of, words_of, number_within, nothing, place_of, may_name, at_line, ◌>>=◌, LineFault, FaultyLine, Row, Entry}
use Rattle.text_own.specs.Row.{verb_of, row_of, or_bad, word_at}
use Rattle.text_own.specs.declared.row.Verb.{Verb}
use Rattle.text_own.specs.declared.table.Calls.{Calls}
use Rattle.text_own.specs.declared.table.Said.{Said}
use Rattle.text_own.specs.declared.table.Words.{Words}
use Rattle.text_own.specs.declared.table.OwnLock.{OwnLock}
use Rattle.text_own.specs.declared.table.Behind.{Behind}
use Rattle.text_own.specs.declared.table.Lines.{Lines}
use Rattle.text_own.specs.declared.table.Said.TheVariants as says

abbrev pub told_label : Option (Bor (List ℕ)) → List (List ℕ)
told_label None = []
told_label (Some label) = label.now ∷ []

abbrev pub is_call : List ℕ → Bool
is_call name = bytes_eq name (codes "lock") || (bytes_eq name (codes "try_lock") || bytes_eq name (codes "unlock"))

abbrev pub begins : List ℕ → List (List ℕ) → Bool
begins name [] = false
begins name (word ∷ words) = bytes_eq word name

-- the label of a row's line, which is none of a call
abbrev pub label_of : List (List ℕ) → List (List ℕ)
label_of [] = []
label_of (label ∷ words) = if is_call label then [] else label ∷ []

-- before the line that begins with `stop`
abbrev pub labels_of : List ℕ → List (List ℕ) → List (List ℕ)
labels_of stop [] = []
labels_of stop (line ∷ lines) = if begins stop (words_of line) then [] else label_of (words_of line) ++ labels_of stop lines

-- Where a call begins.
abbrev pub entry_by : ℕ → List (List ℕ) → Result Entry LineFault
entry_by row [] = Ok (record { row = row; takes_hold = true; needs_hold = false })
entry_by row (needs ∷ []) = Err LineFault.BadLine
entry_by row (needs ∷ hold ∷ words) =
    if (bytes_eq needs (codes "needs") && bytes_eq hold (codes "hold")) then (nothing words >>= λ _. Ok (record { row = row; takes_hold = false; needs_hold = true })) else Err LineFault.BadLine

abbrev pub entry_in : List (List ℕ) → List (List ℕ) → Result Entry LineFault
entry_in labels [] = Err LineFault.BadLine
entry_in labels (label ∷ words) = or_bad (place_of labels label) >>= λ row. entry_by row words

-- Each call begins in one place.
abbrev pub with_call : Calls → List ℕ → Entry → Result Calls LineFault
with_call calls name entry =
    if (bytes_eq name (codes "lock") && is_none calls.lock) then Ok (record { lock = Some entry; try_lock = calls.try_lock; unlock = calls.unlock })
    else if (bytes_eq name (codes "try_lock") && is_none calls.try_lock) then Ok (record { lock = calls.lock; try_lock = Some entry; unlock = calls.unlock })
    else if (bytes_eq name (codes "unlock") && is_none calls.unlock) then Ok (record { lock = calls.lock; try_lock = calls.try_lock; unlock = Some entry })
    else Err LineFault.BadLine

abbrev pub is_at : ℕ → Option ℕ → Bool
is_at rows None = false
is_at rows (Some place) = place == rows

-- The words of a lock: of each its name, which is new, and what it holds at first.
abbrev pub told_words : Words → List (List ℕ) × List ℕ
told_words words = (map (λ name. name.now) words.names.items, words.opening.items)

abbrev pub first_value : List (List ℕ) → List ℕ → List ℕ → Result ℕ LineFault
first_value names name value = if (may_name names name && is_some (word_at (length names))) then number_within 0 (2 ^ 64 - 1) value else Err LineFault.BadLine

abbrev pub words_from : List (List ℕ) → List ℕ → List (List ℕ) → Result (List (List ℕ) × List ℕ) LineFault
words_from names opening [] = Ok (names, opening)
words_from names opening (name ∷ []) = Err LineFault.BadLine
words_from names opening (name ∷ value ∷ words) = first_value names name value >>= λ n. words_from (names ++ name ∷ []) (opening ++ n ∷ []) words

module _ (names labels : List (List ℕ)) (rows : ℕ) (calls : Calls) where
  -- a row's label is new, so its place among the labels is that of the row
  abbrev pub row_said : List ℕ → Verb → List (List ℕ) → Result Said LineFault
  row_said label verb words = if is_at rows (place_of labels label) then (row_of names labels verb words >>= λ row. Ok (says.Row row)) else Err LineFault.BadLine

  abbrev pub call_said : List ℕ → List (List ℕ) → Result Said LineFault
  call_said call words = entry_in labels words >>= λ entry. with_call calls call entry >>= λ more. Ok (says.Calls more)

  -- what a line says, behind so many rows and these calls
  abbrev pub read_line : List (List ℕ) → Result Said LineFault
  read_line [] = Ok Said.Nothing
  read_line (first ∷ []) = Err LineFault.BadLine
  read_line (first ∷ second ∷ words) = if is_call first then call_said first (second ∷ words) else (or_bad (verb_of second) >>= λ verb. row_said first verb words)

-- `object <name>`
abbrev pub is_one : List (List ℕ) → Bool
is_one [] = false
is_one (word ∷ []) = true
is_one (word ∷ more ∷ words) = false

abbrev pub check_name : List (List ℕ) → Result Unit LineFault
check_name [] = Err LineFault.NoObject
check_name (word ∷ words) = if bytes_eq word (codes "object") then (if is_one words then Ok tt else Err LineFault.BadLine) else Err LineFault.NoObject

-- `words`, and the words
abbrev pub words_in : List (List ℕ) → Result (List (List ℕ) × List ℕ) LineFault
words_in [] = Err LineFault.BadLine
words_in (word ∷ words) = if bytes_eq word (codes "words") then words_from [] [] words else Err LineFault.BadLine

-- what was read so far: the calls and the rows
pub record State : Type 0 where
  pub calls : Calls
  pub rows : List Row

abbrev pub first_state : State
first_state = record { calls = record { lock = None; try_lock = None; unlock = None }; rows = [] }

-- what a line adds
abbrev pub with_said : State → Said → State
with_said s Said.Nothing = s
with_said s (says.Row row) = record { calls = s.calls; rows = s.rows ++ row ∷ [] }
with_said s (says.Calls calls) = record { calls = calls; rows = s.rows }

-- the calls, the rows, the number of the last of their lines, and the lines behind it
pub record Read : Type 0 where
  pub calls : Calls
  pub rows : List Row
  pub line : ℕ
  pub lines : List (List ℕ)

abbrev pub told_lines : Lines → Read
told_lines read = record { calls = read.calls; rows = read.rows.items; line = read.behind.line; lines = lines_of read.behind.lines.now }

-- The calls and the rows of the lines that are left, up to the one that begins with `stop`.
abbrev pub read_lines : List (List ℕ) → List (List ℕ) → List ℕ → ℕ → State → List (List ℕ) → Result Read FaultyLine
read_lines names labels stop line s [] = Err (record { line = line + 1; fault = LineFault.BadLine })
read_lines names labels stop line s (next ∷ lines) =
    if begins stop (words_of next)
    then Ok (record { calls = s.calls; rows = s.rows; line = line; lines = next ∷ lines })
    else (at_line (line + 1) (read_line names labels (length s.rows) s.calls (words_of next)) >>= λ said. read_lines names labels stop (line + 1) (with_said s said) lines)

-- A lock of one's own: its words, what they hold at first, its calls, the labels of its rows, and these.
pub record Lock : Type 0 where
  pub names : List (List ℕ)
  pub opening : List ℕ
  pub calls : Calls
  pub labels : List (List ℕ)
  pub rows : List Row

abbrev pub told_lock : OwnLock → Lock
told_lock lock = record { names = map (λ name. name.now) lock.names.items; opening = lock.opening.items; calls = lock.calls; labels = map (λ label. label.now) lock.labels.items; rows = lock.rows.items }

-- it, the number of the last of its lines, and the lines behind it
pub record Table : Type 0 where
  pub lock : Lock
  pub line : ℕ
  pub lines : List (List ℕ)

abbrev pub told_table : OwnLock → Behind → Table
told_table lock behind = record { lock = told_lock lock; line = behind.line; lines = lines_of behind.lines.now }

abbrev pub behind_name : List ℕ → List (List ℕ) → Result Table FaultyLine
behind_name stop [] = Err (record { line = 2; fault = LineFault.BadLine })
behind_name stop (second ∷ lines) =
    at_line 2 (words_in (words_of second)) >>= λ words. read_lines words.0 (labels_of stop lines) stop 2 first_state lines >>= λ found.
    Ok (record { lock = record { names = words.0; opening = words.1; calls = found.calls; labels = labels_of stop lines; rows = found.rows }; line = found.line; lines = found.lines })

-- the table with which a text begins, up to the line that begins with `stop`
abbrev pub table_of : List ℕ → List (List ℕ) → Result Table FaultyLine
table_of stop [] = Err (record { line = 1; fault = LineFault.NoObject })
table_of stop (first ∷ lines) = at_line 1 (check_name (words_of first)) >>= λ _. behind_name stop lines
