-- A row of the trace in words: its cells, by the names of their columns.
use Rattle.std.specs.Prelude.{ℕ, List, [], ◌∷◌, ◌++◌, codes}
use Rattle.text_trace.specs.Cells.{Texts}
use Rattle.text_trace.specs.Rows.{Entry}
use Rattle.text_trace.specs.Each.{for_each}
use Rattle.text_trace.specs.Table.{steps_words, text_at, times_words}

-- how many steps it has, where it has more than one
abbrev pub times_part : List ℕ → List ℕ
times_part [] = []
times_part (digit ∷ digits) = codes ", " ++ ((digit ∷ digits) ++ codes " times")

-- what the words of each object hold, behind their title
abbrev pub texts_words : List (List ℕ) → List (List ℕ) → List ℕ
texts_words titles texts = for_each (λ k title. title ++ (codes " " ++ (text_at texts k ++ codes ", "))) 0 titles

abbrev pub cell_words : {T : Type 0} → List (List ℕ) → Texts T → List ℕ
cell_words titles cells =
    codes ", line " ++ (cells.line ++ (codes ", party " ++ (cells.party ++ (codes ": " ++ (cells.act ++ (codes "; " ++ (texts_words titles cells.words
    ++ (codes "holds " ++ (cells.holds ++ (codes ", call " ++ cells.call))))))))))

-- as `step 4-10003, 10000 times, line 5, party 2: exchange 0 for 1, found 1, failed; word 1, holds 1, call goes on`
unfoldable pub title_words : {T : Type 0} → List (List ℕ) → Entry T → List ℕ
title_words titles row = codes "step " ++ (steps_words row.first row.last ++ (times_part (times_words row.first row.last) ++ cell_words titles row.cells))
