-- Rows, one more at a time.
use Rattle.text_trace.proofs.Names.{nat_tests, eqb-true, eqb-false, ◌≡◌, ℕ, zero, suc, ◌+◌, ◌-◌, ◌^◌, ◌<◌, ◌≤◌, min, Bool, true, false, refl, sym, ◌∙◌, ap, subst, List, [], ◌∷◌, ◌++◌, length, map, take, drop, max, ◌&&◌, get_or, append_assoc, string_bytes, at_drop_more, drop_all, texts_same, text_at, widest, word_widths, word_cells, Option, Some, None, arith, take_more, map-append, append-nil, length-map, take-map, bytes_eq, Row, Texts, texts_of, Entry, entry_of, entries, read_same, number_after, alone, longer, joined, added, added_often, folded, trimmed, trimmed_to, cell, columns_of, head, line_text, widened, widened_by, widths_of, row_line, row_lines, table}
use Rattle.std.proofs.lemmas.List.Concat.{flat_map-append}
use Rattle.std.proofs.lemmas.Slice.Eq.{bytes_eq-Decides}
use Rattle.text_trace.specs.declared.table.Line.{Line}
use Rattle.text_trace.specs.declared.table.Widths.{Widths}

-- a text is itself
same_bytes : (bytes : List ℕ) → bytes_eq bytes bytes ≡ true
same_bytes bytes = (bytes_eq-Decides bytes bytes).1 refl

same_texts : (texts : List (List ℕ)) → texts_same texts texts ≡ true
same_texts [] = refl
same_texts (text ∷ texts) = rw (same_bytes text, same_texts texts) refl

false_behind : (a b : Bool) → false ≡ b → false ≡ a && b
false_behind true b is = is
false_behind false b is = refl

pub texts_differ : {A : Type 0} (f : A → List ℕ) (xs ys : List A) → (length xs ≡ length ys → ⊥) → false ≡ texts_same (map f xs) (map f ys)
texts_differ f [] [] other = absurd (other refl)
texts_differ f [] (y ∷ ys) other = refl
texts_differ f (x ∷ xs) [] other = refl
texts_differ f (x ∷ xs) (y ∷ ys) other = false_behind (bytes_eq (f x) (f y)) (texts_same (map f xs) (map f ys)) (texts_differ f xs ys (λ same. other (ap suc same)))

-- Text after text.

both : (x y z a b : List ℕ) → y ≡ x ++ a → z ≡ y ++ b → z ≡ x ++ (a ++ b)
both x y z a b e f = f ∙ ap (λ (l : List ℕ). l ++ b) e ∙ append_assoc x a b

pub line_printed : (widths : Widths) (words : List ℕ) (line : Line) (t0 t1 t2 t3 t4 t5 t6 t7 t8 t9 : List ℕ) → t1 ≡ t0 ++ cell widths.steps line.steps.now → t2 ≡ t1 ++ cell widths.times line.times.now → t3 ≡ t2 ++ cell widths.line line.line.now →
    t4 ≡ t3 ++ cell widths.party line.party.now → t5 ≡ t4 ++ cell widths.act line.act.now → t6 ≡ t5 ++ word_cells words (map string_bytes line.words.now) → t7 ≡ t6 ++ cell widths.holds line.holds.now →
    t8 ≡ t7 ++ line.call.now → t9 ≡ t8 ++ (10 ∷ []) → t9 ≡ t0 ++ line_text widths words (columns_of line)
unfolding line_text
line_printed widths words line t0 t1 t2 t3 t4 t5 t6 t7 t8 t9 e1 e2 e3 e4 e5 e6 e7 e8 e9 =
    both t0 t1 t9 _ _ e1 (both t1 t2 t9 _ _ e2 (both t2 t3 t9 _ _ e3 (both t3 t4 t9 _ _ e4 (both t4 t5 t9 _ _ e5 (both t5 t6 t9 _ _ e6 (both t6 t7 t9 _ _ e7 (both t7 t8 t9 _ _ e8 e9)))))))

module _ {T : Type 0} where
  -- The next step.

  added_at_end : (cells : Texts T) (done : List (Entry T)) (row : Entry T) → added cells (done ++ row ∷ []) ≡ done ++ joined (read_same row.cells cells) row cells
  added_at_end cells [] row = refl
  added_at_end cells (d ∷ []) row = refl
  added_at_end cells (d ∷ next ∷ done) row = ap (λ (rows : List (Entry T)). d ∷ rows) (added_at_end cells (next ∷ done) row)

  entries_end : (rows mid : List (Row T)) (last : Row T) → rows ≡ mid ++ last ∷ [] → entries rows ≡ entries mid ++ entry_of last ∷ []
  entries_end rows mid last is = ap entries is ∙ map-append entry_of mid (last ∷ [])

  reads_itself : (cells : Texts T) → read_same cells cells ≡ true
  reads_itself cells = rw (same_bytes cells.line, same_bytes cells.party, same_bytes cells.act, same_texts cells.words, same_bytes cells.holds, same_bytes cells.call) refl

  -- a row with so many more steps
  abbrev lengthened : ℕ → Entry T → Texts T → Entry T
  lengthened n row cells = record { first = row.first; last = min (row.last + n) (2 ^ 64 - 1); cells = cells }

  often_joined : (n : ℕ) (cells : Texts T) (done : List (Entry T)) (row : Entry T) → read_same row.cells cells ≡ true → added_often (suc n) cells (done ++ row ∷ []) ≡ done ++ lengthened (suc n) row cells ∷ []
  often_joined zero cells done row same = added_at_end cells done row ∙ ap (λ (b : Bool). done ++ joined b row cells) same
  often_joined (suc n) cells done row same =
      let counts : min (min (row.last + 1) (2 ^ 64 - 1) + suc n) (2 ^ 64 - 1) ≡ min (row.last + suc (suc n)) (2 ^ 64 - 1) = omega arith in
      ap (added_often (suc n) cells) (added_at_end cells done row ∙ ap (λ (b : Bool). done ++ joined b row cells) same)
      ∙ often_joined n cells done (longer row cells) (reads_itself cells)
      ∙ ap (λ (last : ℕ). done ++ record { first = row.first; last = last; cells = cells } ∷ []) counts

  -- a row of so many steps, after this number
  abbrev apart : ℕ → ℕ → Texts T → Entry T
  apart n number cells = record { first = min (number + 1) (2 ^ 64 - 1); last = min (number + n) (2 ^ 64 - 1); cells = cells }

  often_apart : (n : ℕ) (cells : Texts T) (done : List (Entry T)) (row : Entry T) → read_same row.cells cells ≡ false → added_often (suc n) cells (done ++ row ∷ []) ≡ (done ++ row ∷ []) ++ apart (suc n) row.last cells ∷ []
  often_apart zero cells done row other = added_at_end cells done row ∙ ap (λ (b : Bool). done ++ joined b row cells) other ∙ sym (append_assoc done (row ∷ []) (apart 1 row.last cells ∷ []))
  often_apart (suc n) cells done row other =
      let counts : min (min (row.last + 1) (2 ^ 64 - 1) + suc n) (2 ^ 64 - 1) ≡ min (row.last + suc (suc n)) (2 ^ 64 - 1) = omega arith in
      ap (added_often (suc n) cells) (added_at_end cells done row ∙ ap (λ (b : Bool). done ++ joined b row cells) other ∙ sym (append_assoc done (row ∷ []) (alone (number_after row.last) cells ∷ [])))
      ∙ often_joined n cells (done ++ row ∷ []) (alone (number_after row.last) cells) (reads_itself cells)
      ∙ ap (λ (last : ℕ). (done ++ row ∷ []) ++ record { first = min (row.last + 1) (2 ^ 64 - 1); last = last; cells = cells } ∷ []) counts

  often_alone : (n : ℕ) (cells : Texts T) → suc n < 2 ^ 64 → added_often (suc n) cells [] ≡ record { first = 1; last = suc n; cells = cells } ∷ []
  often_alone zero cells small = refl
  often_alone (suc n) cells small =
      let counts : min (1 + suc n) (2 ^ 64 - 1) ≡ suc (suc n) = omega (arith, small) in
      often_joined n cells [] (alone 1 cells) (reads_itself cells) ∙ ap (λ (last : ℕ). record { first = 1; last = last; cells = cells } ∷ []) counts

  pub added_first : (times : ℕ) (cells : Texts T) (old mid new : List (Row T)) (row : Row T) → 0 < times → times < 2 ^ 64 → old ≡ [] → mid ≡ [] → new ≡ mid ++ row ∷ [] → entry_of row ≡ record { first = 1; last = times; cells = cells } →
      entries new ≡ added_often times cells (entries old)
  added_first times cells old mid new row h1 h2 h3 h4 h5 h6 = grind (arith, nat_tests, eqb-true, eqb-false, entries_end, often_alone)

  pub added_to_last : (times : ℕ) (cells : Texts T) (old mid new : List (Row T)) (last row : Row T) → 0 < times → old ≡ mid ++ last ∷ [] → true ≡ read_same (texts_of last.cells) cells → new ≡ mid ++ row ∷ [] → entry_of row ≡ lengthened times (entry_of last) cells →
      entries new ≡ added_often times cells (entries old)
  added_to_last zero cells old mid new last row some was same is made = absurd (omega (arith, some))
  added_to_last (suc n) cells old mid new last row some was same is made =
      entries_end new mid row is ∙ ap (λ (x : Entry T). entries mid ++ x ∷ []) made
      ∙ sym (ap (added_often (suc n) cells) (entries_end old mid last was) ∙ often_joined n cells (entries mid) (entry_of last) (sym same))

  pub added_alone : (times : ℕ) (cells : Texts T) (old mid then_last new : List (Row T)) (last row : Row T) → 0 < times → old ≡ mid ++ last ∷ [] → false ≡ read_same (texts_of last.cells) cells → then_last ≡ mid ++ last ∷ [] → new ≡ then_last ++ row ∷ [] →
      entry_of row ≡ apart times last.last cells → entries new ≡ added_often times cells (entries old)
  added_alone zero cells old mid then_last new last row some was same between is made = absurd (omega (arith, some))
  added_alone (suc n) cells old mid then_last new last row some was same between is made =
      entries_end new then_last row is ∙ ap (λ (front : List (Entry T)). front ++ entry_of row ∷ []) (entries_end then_last mid last between)
      ∙ ap (λ (x : Entry T). (entries mid ++ entry_of last ∷ []) ++ x ∷ []) made
      ∙ sym (ap (added_often (suc n) cells) (entries_end old mid last was) ∙ often_apart n cells (entries mid) (entry_of last) (sym same))

  -- Rows that are trimmed.

  trimmed_short : (n : ℕ) (rows : List (Entry T)) → length rows ≤ n → trimmed n rows ≡ rows
  trimmed_short n [] fits = refl
  trimmed_short zero (row ∷ rows) fits = absurd (omega (arith, fits))
  trimmed_short (suc n) (row ∷ rows) fits = ap (λ (l : List (Entry T)). row ∷ l) (trimmed_short n rows (omega (arith, fits)))

  trimmed_end : (n : ℕ) (rows : List (Entry T)) (row : Entry T) → n ≤ length rows → trimmed n (rows ++ row ∷ []) ≡ take n rows ++ row ∷ []
  trimmed_end zero [] row fits = refl
  trimmed_end zero (r ∷ []) row fits = refl
  trimmed_end zero (r ∷ next ∷ rows) row fits = trimmed_end zero (next ∷ rows) row (omega arith)
  trimmed_end (suc n) [] row fits = absurd (omega (arith, fits))
  trimmed_end (suc n) (r ∷ rows) row fits = ap (λ (l : List (Entry T)). r ∷ l) (trimmed_end n rows row (omega (arith, fits)))

  joined_behind : (b : Bool) (cells : Texts T) (row last : Entry T) → trimmed 0 (row ∷ joined b last cells) ≡ trimmed 0 (joined b last cells)
  joined_behind b cells row last = grind (arith, nat_tests, eqb-true, eqb-false)

  added_behind : (cells : Texts T) (row : Entry T) (rows : List (Entry T)) → trimmed 0 (row ∷ added cells rows) ≡ trimmed 0 (added cells rows)
  added_behind cells row [] = refl
  added_behind cells row (last ∷ []) = joined_behind (read_same last.cells cells) cells row last
  added_behind cells row (r ∷ next ∷ rows) = refl

  added_after : (n : ℕ) (cells : Texts T) (row next : Entry T) (rows : List (Entry T)) → added cells (row ∷ trimmed n (next ∷ rows)) ≡ row ∷ added cells (trimmed n (next ∷ rows))
  added_after zero cells row next [] = refl
  added_after zero cells row next (r ∷ rows) = added_after zero cells row r rows
  added_after (suc n) cells row next rows = refl

  trimmed_added : (n : ℕ) (cells : Texts T) (rows : List (Entry T)) → trimmed n (added cells (trimmed n rows)) ≡ trimmed n (added cells rows)
  trimmed_added n cells [] = refl
  trimmed_added zero cells (row ∷ []) = refl
  trimmed_added zero cells (row ∷ next ∷ rows) = trimmed_added zero cells (next ∷ rows) ∙ sym (added_behind cells row (next ∷ rows))
  trimmed_added (suc n) cells (row ∷ []) = refl
  trimmed_added (suc n) cells (row ∷ next ∷ rows) =
      ap (trimmed (suc n)) (added_after n cells row next rows) ∙ ap (λ (l : List (Entry T)). row ∷ l) (trimmed_added n cells (next ∷ rows))

  trimmed_again : (n : ℕ) (rows : List (Entry T)) → trimmed n (trimmed n rows) ≡ trimmed n rows
  trimmed_again n [] = refl
  trimmed_again zero (row ∷ []) = refl
  trimmed_again zero (row ∷ next ∷ rows) = trimmed_again zero (next ∷ rows)
  trimmed_again (suc n) (row ∷ rows) = ap (λ (l : List (Entry T)). row ∷ l) (trimmed_again n rows)

  -- steps that are added to trimmed rows come to the same, once that is trimmed
  pub trimmed_folded : (most : Option ℕ) (steps : List (Texts T)) (rows : List (Entry T)) → trimmed_to most (folded steps (trimmed_to most rows)) ≡ trimmed_to most (folded steps rows)
  trimmed_folded None steps rows = refl
  trimmed_folded (Some n) [] rows = trimmed_again n rows
  trimmed_folded (Some n) (cells ∷ steps) rows =
      sym (trimmed_folded (Some n) steps (added cells (trimmed n rows))) ∙ ap (λ (l : List (Entry T)). trimmed n (folded steps l)) (trimmed_added n cells rows) ∙ trimmed_folded (Some n) steps (added cells rows)

  pub trims_short : (n : ℕ) (rows : List (Row T)) → length rows ≤ n → entries rows ≡ trimmed n (entries rows)
  trims_short n rows fits = sym (trimmed_short n (entries rows) (subst (λ (k : ℕ). k ≤ n) (sym (length-map rows entry_of)) fits))

  pub trims : (n : ℕ) (old mid cut new : List (Row T)) (last : Row T) → n ≤ length mid → old ≡ mid ++ last ∷ [] → cut ≡ take n mid → new ≡ cut ++ last ∷ [] → entries new ≡ trimmed n (entries old)
  trims n old mid cut new last fits was short is =
      entries_end new cut last is ∙ ap (λ (l : List (Row T)). entries l ++ entry_of last ∷ []) short ∙ ap (λ (l : List (Entry T)). l ++ entry_of last ∷ []) (sym (take-map entry_of n mid))
      ∙ sym (ap (trimmed n) (entries_end old mid last was) ∙ trimmed_end n (entries mid) (entry_of last) (subst (λ (k : ℕ). n ≤ k) (sym (length-map mid entry_of)) fits))

  -- One more row of a list.

  entries_more : (rows : List (Row T)) (i : ℕ) (row : Row T) → i < length rows → row ≡ get_or rows i row → entries (take (i + 1) rows) ≡ entries (take i rows) ++ entry_of row ∷ []
  entries_more rows i row below is = entries_end (take (i + 1) rows) (take i rows) row (take_more rows i row below ∙ ap (λ (r : Row T). take i rows ++ r ∷ []) (sym is))

  widened_end : (rows : List (Entry T)) (row : Entry T) (widths : Widths) → widened_by (rows ++ row ∷ []) widths ≡ widened (widened_by rows widths) row
  widened_end [] row widths = refl
  widened_end (r ∷ rows) row widths = widened_end rows row (widened widths r)

  pub widened_more : (rows : List (Row T)) (i : ℕ) (row : Row T) (least old new : Widths) → i < length rows → row ≡ get_or rows i row → old ≡ widened_by (entries (take i rows)) least → new ≡ widened old (entry_of row) →
      new ≡ widened_by (entries (take (i + 1) rows)) least
  widened_more rows i row least old new below item was is =
      is ∙ ap (λ (w : Widths). widened w (entry_of row)) was ∙ sym (ap (λ (l : List (Entry T)). widened_by l least) (entries_more rows i row below item) ∙ widened_end (entries (take i rows)) (entry_of row) least)

  pub printed_more : (rows : List (Row T)) (i : ℕ) (row : Row T) (widths : Widths) (words first old new : List ℕ) → i < length rows → row ≡ get_or rows i row → old ≡ first ++ row_lines widths words (entries (take i rows)) →
      new ≡ old ++ row_line widths words (entry_of row) → new ≡ first ++ row_lines widths words (entries (take (i + 1) rows))
  printed_more rows i row widths words first old new below item was is =
      let front = row_lines widths words (entries (take i rows)) in
      let more : row_lines widths words (entries (take (i + 1) rows)) ≡ front ++ row_line widths words (entry_of row) =
      ap (row_lines widths words) (entries_more rows i row below item) ∙ flat_map-append (row_line widths words) (entries (take i rows)) (entry_of row ∷ [])
      ∙ ap (λ (l : List ℕ). front ++ l) (append-nil (row_line widths words (entry_of row))) in
      is ∙ ap (λ (l : List ℕ). l ++ row_line widths words (entry_of row)) was ∙ append_assoc first front (row_line widths words (entry_of row)) ∙ ap (λ (l : List ℕ). first ++ l) (sym more)

  -- The widths of the words.

  pub widest_more : (rows : List (Row T)) (i k : ℕ) (row : Row T) (width width' all : ℕ) → i < length rows → row ≡ get_or rows i row → widest k (entries (drop i rows)) width ≡ all → width' ≡ max width (length (text_at (texts_of row.cells).words k)) →
      widest k (entries (drop (i + 1) rows)) width' ≡ all
  widest_more rows i k row width width' all below item before is =
      rw is (ap (λ (r : Row T). widest k (entries (drop (i + 1) rows)) (max width (length (text_at (texts_of r.cells).words k)))) item
      ∙ sym (at_drop_more (λ (l : List (Row T)). widest k (entries l) width) rows i row below) ∙ before)

  pub widest_all : (rows : List (Row T)) (i k width all : ℕ) → length rows ≤ i → widest k (entries (drop i rows)) width ≡ all → width ≡ all
  widest_all rows i k width all beyond before = ap (λ (l : List (Row T)). widest k (entries l) width) (sym (drop_all i rows beyond)) ∙ before

  pub table_printed : (titles : List (List ℕ)) (rows : List (Entry T)) (widths : Widths) (words none first all : List ℕ) → widths ≡ widths_of rows → words ≡ word_widths rows titles → none ≡ [] → first ≡ none ++ line_text widths words (head titles) →
      all ≡ first ++ row_lines widths words rows → all ≡ table titles rows
  unfolding table
  table_printed titles rows widths words none first all is words_are empty head_is rows_are =
      both none first all (line_text widths words (head titles)) (row_lines widths words rows) head_is rows_are
      ∙ ap (λ (l : List ℕ). l ++ (line_text widths words (head titles) ++ row_lines widths words rows)) empty ∙ ap (λ (w : Widths). line_text w words (head titles) ++ row_lines w words rows) is
      ∙ ap (λ (w : List ℕ). line_text (widths_of rows) w (head titles) ++ row_lines (widths_of rows) w rows) words_are
