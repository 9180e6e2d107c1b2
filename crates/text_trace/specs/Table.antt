-- The table of rows: columns as wide as their widest cells, and two blanks between them. The words of each object have a column, with a title of its own.
use Rattle.std.specs.Prelude.{ℕ, ◌+◌, ◌-◌, ◌==◌, max, if◌then◌else◌, List, [], ◌∷◌, ◌++◌, length, map, slice_get, Option, Some, None, replicate, codes, string_bytes}
use Rattle.text_trace.specs.Names.{decimal, flat_map}
use Rattle.text_trace.specs.declared.table.Line.{Line}
use Rattle.text_trace.specs.declared.table.Widths.{Widths}
use Rattle.text_trace.specs.Each.{for_each}
use Rattle.text_trace.specs.Rows.{Entry}

-- the number of a row's step, or those of its first and its last
abbrev pub steps_words : ℕ → ℕ → List ℕ
steps_words first last = if first == last then decimal first else decimal first ++ (codes "-" ++ decimal last)

-- how many steps it has, where it has more than one
abbrev pub times_words : ℕ → ℕ → List ℕ
times_words first last = if first == last then [] else decimal ((last - first) + 1)

-- the titles are the first cells of their columns
abbrev pub titles : Widths
titles = record { steps = 4; times = 5; line = 4; party = 5; act = 3; holds = 5 }

abbrev pub widened : {T : Type 0} → Widths → Entry T → Widths
widened widths row =
    record {
      steps = max widths.steps (length (steps_words row.first row.last));
      times = max widths.times (length (times_words row.first row.last));
      line = max widths.line (length row.cells.line);
      party = max widths.party (length row.cells.party);
      act = max widths.act (length row.cells.act);
      holds = max widths.holds (length row.cells.holds);
    }

abbrev pub widened_by : {T : Type 0} → List (Entry T) → Widths → Widths
widened_by [] widths = widths
widened_by (row ∷ rows) widths = widened_by rows (widened widths row)

abbrev pub widths_of : {T : Type 0} → List (Entry T) → Widths
widths_of rows = widened_by rows titles

-- Columns of words.

-- the text of this place; nothing where there is none
abbrev pub or_empty : Option (List ℕ) → List ℕ
or_empty None = []
or_empty (Some text) = text

abbrev pub text_at : List (List ℕ) → ℕ → List ℕ
text_at texts k = or_empty (slice_get texts k)

abbrev pub widest : {T : Type 0} → ℕ → List (Entry T) → ℕ → ℕ
widest k [] width = width
widest k (row ∷ rows) width = widest k rows (max width (length (text_at row.cells.words k)))

-- by their titles
abbrev pub word_widths : {T : Type 0} → List (Entry T) → List (List ℕ) → List ℕ
word_widths rows titles = for_each (λ k title. widest k rows (length title) ∷ []) 0 titles

-- a cell that another follows
abbrev pub cell : ℕ → List ℕ → List ℕ
cell width text = text ++ (replicate (width - length text) 32 ++ codes "  ")

-- cells of words, each of its width
abbrev pub word_cells : List ℕ → List (List ℕ) → List ℕ
word_cells widths texts = for_each (λ k width. cell width (text_at texts k)) 0 widths

-- The cells of a line.
pub record Columns : Type 0 where
  pub steps : List ℕ
  pub times : List ℕ
  pub line : List ℕ
  pub party : List ℕ
  pub act : List ℕ
  pub words : List (List ℕ)
  pub holds : List ℕ
  pub call : List ℕ

abbrev pub columns_of : Line → Columns
columns_of line =
    record {
      steps = line.steps.now;
      times = line.times.now;
      line = line.line.now;
      party = line.party.now;
      act = line.act.now;
      words = map string_bytes line.words.now;
      holds = line.holds.now;
      call = line.call.now;
    }

abbrev pub head : List (List ℕ) → Columns
head titles =
    record {
      steps = codes "step";
      times = codes "times";
      line = codes "line";
      party = codes "party";
      act = codes "act";
      words = titles;
      holds = codes "holds";
      call = codes "call";
    }

abbrev pub columns_at : {T : Type 0} → Entry T → Columns
columns_at row =
    record {
      steps = steps_words row.first row.last;
      times = times_words row.first row.last;
      line = row.cells.line;
      party = row.cells.party;
      act = row.cells.act;
      words = row.cells.words;
      holds = row.cells.holds;
      call = row.cells.call;
    }

unfoldable pub line_text : Widths → List ℕ → Columns → List ℕ
line_text widths words line =
    cell widths.steps line.steps ++ (cell widths.times line.times ++ (cell widths.line line.line ++ (cell widths.party line.party
    ++ (cell widths.act line.act ++ (word_cells words line.words ++ (cell widths.holds line.holds ++ (line.call ++ codes "\n")))))))

abbrev pub row_line : {T : Type 0} → Widths → List ℕ → Entry T → List ℕ
row_line widths words row = line_text widths words (columns_at row)

abbrev pub row_lines : {T : Type 0} → Widths → List ℕ → List (Entry T) → List ℕ
row_lines widths words rows = flat_map (row_line widths words) rows

-- the head, with the titles of the words' columns, and a line for each row
unfoldable pub table : {T : Type 0} → List (List ℕ) → List (Entry T) → List ℕ
table titles rows =
    line_text (widths_of rows) (word_widths rows titles) (head titles) ++ row_lines (widths_of rows) (word_widths rows titles) rows
