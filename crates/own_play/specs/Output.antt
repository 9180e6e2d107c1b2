-- What a text that begins with a table prints, or the fault of its first faulty line.
use Rattle.std.specs.Prelude.{ℕ, ◌+◌, ◌++◌, List, [], ◌∷◌, get_or, map, Option, Some, None, Result, Ok, Err, codes, if◌then◌else◌}
use Rattle.std.specs.Fmt.{decimal}
use Rattle.own_play.specs.Names.{Word, Words, word_at, word_of_place, ◌>>=◌, at_line, lines_of, words_of, parties_of, FaultyLine, LineFault, Lock, told_lock, table_of}
use Rattle.own_play.specs.Machine.{State, start}
use Rattle.own_play.specs.Walk.{Walk, lines_walk, played}
use Rattle.own_play.specs.declared.text.Opened.{Opened}
use Rattle.text_own.specs.Answer.{begins_own, unmark}
use Rattle.text_room.specs.Output as room

abbrev pub value_by : Words → Option Word → ℕ
value_by words None = 0
value_by words (Some word) = word_at words word

abbrev pub value_at : Words → ℕ → ℕ
value_at words at = value_by words (word_of_place at)

abbrev pub word_words : List ℕ → ℕ → List ℕ
word_words name value = name ++ (codes " " ++ (decimal value ++ codes " "))

abbrev pub unless_empty : List ℕ → ℕ → List ℕ
unless_empty [] value = []
unless_empty (byte ∷ bytes) value = word_words (byte ∷ bytes) value

abbrev pub words_at : Words → List (List ℕ) → ℕ → List ℕ
words_at words names at = unless_empty (get_or names at []) (value_at words at)

-- each word by its name, of the six that there may be, behind what was printed
abbrev pub words_onto : Words → List (List ℕ) → List ℕ → List ℕ
words_onto words names out = (((((out ++ words_at words names 0) ++ words_at words names 1) ++ words_at words names 2) ++ words_at words names 3) ++ words_at words names 4) ++ words_at words names 5

-- the last line, behind what was printed: each word, and how many exchanges failed
abbrev pub last_onto : Lock → State → List ℕ → List ℕ
last_onto lock s out = words_onto s.words lock.names out ++ (codes "failed " ++ (decimal s.failed ++ codes "\n"))

abbrev pub name_in : List (List ℕ) → List ℕ
name_in [] = []
name_in (object ∷ []) = []
name_in (object ∷ name ∷ words) = name

-- the name of the lock, in the first line
abbrev pub own_name : List (List ℕ) → List ℕ
own_name [] = []
own_name (first ∷ lines) = name_in (words_of first)

-- `<name> <parties>`, behind line `number`: how many parties there are, and the lines behind
abbrev pub opened : ℕ → List (List ℕ) → Result (ℕ × List (List ℕ)) FaultyLine
opened number [] = Err (record { line = number + 1; fault = LineFault.BadLine })
opened number (first ∷ lines) = at_line (number + 1) (parties_of (words_of first)) >>= λ parties. Ok (parties, lines)

-- what stands before the lines that play: the lock, how many parties it has, the number of the last of these lines, and the lines behind
pub record Begun : Type 0 where
  pub lock : Lock
  pub parties : ℕ
  pub line : ℕ
  pub lines : List (List ℕ)

abbrev pub told : Opened → Begun
told found = record { lock = told_lock found.lock; parties = found.parties; line = found.rest.line; lines = lines_of found.rest.lines.now }

-- the table, and then the line that opens it, which begins with its name
abbrev pub begun_in : List (List ℕ) → Result Begun FaultyLine
begun_in lines =
    table_of (own_name lines) lines >>= λ table. opened table.line table.lines >>= λ found.
    Ok (record { lock = table.lock; parties = found.0; line = table.line + 1; lines = found.1 })

abbrev pub begun_walk : Begun → Walk
begun_walk begun = lines_walk begun.lock (begun.line + 1) begun.lines (start begun.lock begun.parties)

abbrev pub own_output : List (List ℕ) → Result (List ℕ) FaultyLine
own_output lines =
    begun_in lines >>= λ begun. played (begun_walk begun) (record { state = start begun.lock begun.parties; bytes = [] }) >>= λ p. Ok (last_onto begun.lock p.state p.bytes)

-- any text: of a lock of one's own, of one object, or of several
abbrev pub output_of : List ℕ → Result (List ℕ) FaultyLine
output_of text = if begins_own text then own_output (lines_of (map unmark text)) else room.output_of text
