-- A story has the first rows of a text's trace, and the last line of its output.
use Rattle.draw_story.proofs.Names.{◌≡◌, ℕ, zero, suc, ◌+◌, ◌-◌, ◌<◌, ◌≤◌, min, Result, List, [], ◌∷◌, ◌++◌, length, get_or, map, take, Option, Some, None, Ok, Err, refl, sym, ap, subst, ◌∙◌, arith, take_more, map-append, length-take, length-take-le, length-append, lines_of, text_walk, Row, Entry, entry_of, entries, trimmed, Shown, shown_of, shown_at, kept, number_at_end, left_out, HasOutput}
use Rattle.std.proofs.lemmas.Simd.{map-map}
use Rattle.std.specs.List.{take-map}
use Rattle.std.specs.Prelude.{string_bytes}
use Rattle.model_events.specs.Exports.{Arithmetic, after}
use Rattle.model_events.specs.declared.{event.Event.Event, event.Object.Object}
use Rattle.sync_steps.specs.Machine.{Configuration, StandsAt}
use Rattle.text_lines.specs.declared.header.Header.{Header}
use Rattle.text_lines.specs.Numerals.{Numerals}
use Rattle.sync_play.specs.Print.{printed, last_line}
use Rattle.sync_play.specs.Text.{typed_output}
use Rattle.text_lines.specs.declared.fault.FaultyLine.{FaultyLine}
use Rattle.sync_play.specs.declared.walk.Rest.{Rest}
use Rattle.sync_play.specs.WalkOutput.{events_in, output_unless}
use Rattle.sync_play.specs.Walk.{nothing, opened, rest_walk}
use Rattle.text_trace.specs.Cells.{Texts}
use Rattle.text_trace.specs.Trace.{Adds, HasAdded, HasPlayed, rows_with}
use Rattle.draw_story.specs.declared.story.StoryStep.{StoryStep}
use Rattle.draw_story.specs.Title.{title_words}

-- one more of what is made of a list
pub one_more : {A B C : Type 0} (f : A → C) (g : B → C) (made made' : List A) (from : List B) (i : ℕ) (a : A) (b : B) → i < length from → b ≡ get_or from i b → map f made ≡ map g (take i from) → made' ≡ made ++ a ∷ [] → f a ≡ g b →
    map f made' ≡ map g (take (i + 1) from)
one_more {A} {B} {C} f g made made' from i a b below is was push same =
    ap (map f) push ∙ map-append f made (a ∷ []) ∙ ap (λ (l : List C). l ++ f a ∷ []) was ∙ ap (λ (c : C). map g (take i from) ++ c ∷ []) same
    ∙ sym (ap (map g) (take_more from i b below ∙ ap (λ (x : B). take i from ++ x ∷ []) (sym is)) ∙ map-append g (take i from) (b ∷ []))

pub has_output : (output : Result (List ℕ) FaultyLine) (last : List ℕ) → (front : List ℕ) × (output ≡ Ok (front ++ last)) → HasOutput output
has_output output last ends = (ends.0 ++ last, ends.1)

module _ {T : Type 0} where
  -- The rows that are kept.

  pub keeps : (rows kept : List (Row T)) → kept ≡ take 2000 rows → entries kept ≡ take 2000 (entries rows)
  keeps rows kept cut = ap entries cut ∙ sym (take-map entry_of 2000 rows)

  pub fills : (rows : List (Row T)) → 2000 < length rows → 2000 ≡ length (take 2000 rows)
  fills rows above = sym (length-take-le 2000 rows (omega (arith, above)))

  pub kept_fits : (rows kept : List (Row T)) → kept ≡ take 2000 rows → length kept ≤ 2000
  kept_fits rows kept is = let most : length kept ≡ min 2000 (length rows) = ap length is ∙ length-take 2000 rows in omega (arith, most)

  -- one more row, as a step
  pub one_more_row :
      (titles : List (List ℕ)) (made made' : List (StoryStep T)) (rows : List (Row T)) (i : ℕ) (step : StoryStep T) (row : Row T) → i < length rows → row ≡ get_or rows i row → (length made ≡ i) × (map shown_of made ≡ map (shown_at titles) (entries (take i rows))) → made' ≡ made ++ step ∷ [] →
      shown_of step ≡ shown_at titles (entry_of row) → (length made' ≡ i + 1) × (map shown_of made' ≡ map (shown_at titles) (entries (take (i + 1) rows)))
  one_more_row titles made made' rows i step row below is was push same = (
    let grown : length made' ≡ length made + 1 = ap length push ∙ length-append made (step ∷ []) in omega (arith, grown, was.0),
    one_more shown_of (λ (r : Row T). shown_at titles (entry_of r)) made made' rows i step row below is (was.1 ∙ map-map (shown_at titles) entry_of (take i rows)) push same ∙ sym (map-map (shown_at titles) entry_of (take (i + 1) rows)),
  )

  at_end : (rows : List (Entry T)) (row : Entry T) → number_at_end (rows ++ row ∷ []) ≡ row.last
  at_end [] row = refl
  at_end (r ∷ []) row = refl
  at_end (r ∷ next ∷ rows) row = at_end (next ∷ rows) row

  pub ends_at : (rows rest : List (Row T)) (row : Row T) → rows ≡ rest ++ row ∷ [] → row.last ≡ number_at_end (entries rows)
  ends_at rows rest row is = sym (ap (λ (l : List (Row T)). number_at_end (entries l)) is ∙ ap number_at_end (map-append entry_of rest (row ∷ [])) ∙ at_end (entries rest) (entry_of row))

  pub ends_nowhere : (rows : List (Row T)) → length rows ≡ 0 → 0 ≡ number_at_end (entries rows)
  ends_nowhere [] none = refl
  ends_nowhere (row ∷ rows) none = absurd (omega (arith, none))

  pub leaves_out : (rows kept : List (Row T)) (all some : ℕ) → kept ≡ take 2000 rows → all ≡ number_at_end (entries rows) → some ≡ number_at_end (entries kept) → all - some ≡ left_out (entries rows)
  leaves_out rows kept all some cut e f =
      rw (e, f, keeps rows kept cut) refl

  -- What is kept of rows, and how many are left out, is the same once they are trimmed.

  pub take_trimmed : (n : ℕ) (rows : List (Entry T)) → take n rows ≡ take n (trimmed n rows)
  take_trimmed n [] = refl
  take_trimmed zero (row ∷ rows) = refl
  take_trimmed (suc n) (row ∷ rows) = ap (λ (l : List (Entry T)). row ∷ l) (take_trimmed n rows)

  end_behind : (n : ℕ) (row next : Entry T) (rows : List (Entry T)) → number_at_end (row ∷ trimmed n (next ∷ rows)) ≡ number_at_end (trimmed n (next ∷ rows))
  end_behind zero row next [] = refl
  end_behind zero row next (r ∷ rows) = end_behind zero row r rows
  end_behind (suc n) row next rows = refl

  end_trimmed : (n : ℕ) (rows : List (Entry T)) → number_at_end rows ≡ number_at_end (trimmed n rows)
  end_trimmed n [] = refl
  end_trimmed zero (row ∷ []) = refl
  end_trimmed zero (row ∷ next ∷ rows) = end_trimmed zero (next ∷ rows)
  end_trimmed (suc n) (row ∷ []) = refl
  end_trimmed (suc n) (row ∷ next ∷ rows) = end_trimmed n (next ∷ rows) ∙ sym (end_behind n row next rows)

  pub left_out_trimmed : (rows : List (Entry T)) → left_out rows ≡ left_out (trimmed 2000 rows)
  left_out_trimmed rows = rw (sym (end_trimmed 2000 rows), sym (take_trimmed 2000 rows)) refl

  -- The titles of steps that are drawn as these rows are.
  pub titles_told : (titles : List (List ℕ)) (steps : List (StoryStep T)) (rows : List (Entry T)) → map shown_of steps ≡ map (shown_at titles) rows → map (λ (s : StoryStep T). string_bytes s.title) steps ≡ map (title_words titles) rows
  titles_told titles steps rows e =
      sym (map-map (λ (s : Shown T). s.title) shown_of steps) ∙ ap (map (λ (s : Shown T). s.title)) e ∙ map-map (λ (s : Shown T). s.title) (shown_at titles) rows

module _ {T : Type 0} (z : Arithmetic T) (numerals : Numerals T) where
  -- What was told of a text.

  pub stops : (lines : List (List ℕ)) (header : Header T) (rest : Rest T) (old new : List (Row T)) (fault : FaultyLine) → opened numerals (lines) ≡ Ok (header, lines_of rest.lines.now) → rest.line ≡ 1 → rest.left ≡ nothing →
      (told : Option FaultyLine) → told ≡ Some fault → HasAdded z numerals (Some 2000) header [] (rest_walk z numerals header.object header.parties [] rest) old new told → typed_output z numerals lines ≡ Err fault
  stops lines header rest old new fault is line left told some added =
      let bytes = printed numerals (events_in (rest_walk z numerals header.object header.parties [] rest).steps) ++ last_line z numerals header.object (after (events_in (rest_walk z numerals header.object header.parties [] rest).steps) []) in
      text_walk z numerals lines header rest is line left ∙ ap (λ (f : Option FaultyLine). output_unless f bytes) (sym added.1 ∙ some)

  -- the last line of the output
  pub ends_output : (lines : List (List ℕ)) (header : Header T) (rest : Rest T) (old new : List (Row T)) (machine : Configuration T) (last : List ℕ) → opened numerals (lines) ≡ Ok (header, lines_of rest.lines.now) → rest.line ≡ 1 → rest.left ≡ nothing →
      (told : Option FaultyLine) → told ≡ None → HasAdded z numerals (Some 2000) header [] (rest_walk z numerals header.object header.parties [] rest) old new told → HasPlayed z header [] (rest_walk z numerals header.object header.parties [] rest) machine told →
      ((o : Object T) (parties : ℕ) (past : List (Event T)) → StandsAt z o parties past machine → last ≡ last_line z numerals o past) → (front : List ℕ) × (typed_output z numerals lines ≡ Ok (front ++ last))
  ends_output lines header rest old new machine last is line left told absent added plays prints =
      let walk = rest_walk z numerals header.object header.parties [] rest in
      let front = printed numerals (events_in walk.steps) in
      let played = subst (λ (f : Option FaultyLine). HasPlayed z header [] walk machine f) absent plays in
      let line_is : last ≡ last_line z numerals header.object (after (events_in walk.steps) []) = prints header.object header.parties _ played in (
        front,
        text_walk z numerals lines header rest is line left ∙ ap (λ (f : Option FaultyLine). output_unless f (front ++ last_line z numerals header.object (after (events_in walk.steps) []))) (sym added.1 ∙ absent)
            ∙ ap (λ (l : List ℕ). Ok (front ++ l)) (sym line_is),
      )

-- What was kept of the rows of steps that were added.
module _ {E S T : Type 0} (event : S → E) (cells : List E → S → Texts T) (steps : List S) (fault : Option FaultyLine) where
  rows_are : (none rows all : List (Row T)) (told : Option FaultyLine) → none ≡ [] → Adds event cells (Some 2000) [] steps fault none rows told → all ≡ rows → trimmed 2000 (entries all) ≡ trimmed 2000 (rows_with event cells [] steps [])
  rows_are none rows all told empty added same =
      ap (λ (l : List (Row T)). trimmed 2000 (entries l)) same ∙ added.0 ∙ ap (λ (l : List (Row T)). trimmed 2000 (rows_with event cells [] steps (entries l))) empty

  pub leaves : (none rows all : List (Row T)) (told : Option FaultyLine) → none ≡ [] → Adds event cells (Some 2000) [] steps fault none rows told → all ≡ rows → left_out (entries all) ≡ left_out (rows_with event cells [] steps [])
  leaves none rows all told empty added same =
      left_out_trimmed (entries all) ∙ ap left_out (rows_are none rows all told empty added same) ∙ sym (left_out_trimmed (rows_with event cells [] steps []))

  -- the steps that are drawn
  pub tells : (none rows all : List (Row T)) (told : Option FaultyLine) (drawn : List (StoryStep T)) (titles named : List (List ℕ)) → none ≡ [] → Adds event cells (Some 2000) [] steps fault none rows told → all ≡ rows → titles ≡ named →
      map shown_of drawn ≡ map (shown_at titles) (kept (entries all)) → map shown_of drawn ≡ map (shown_at named) (kept (rows_with event cells [] steps []))
  tells none rows all told drawn titles named empty added same titled shown =
      let kept_same : kept (entries all) ≡ kept (rows_with event cells [] steps []) =
      take_trimmed 2000 (entries all) ∙ ap kept (rows_are none rows all told empty added same) ∙ sym (take_trimmed 2000 (rows_with event cells [] steps [])) in
      shown ∙ ap (λ (t : List (List ℕ)). map (shown_at t) (kept (entries all))) titled ∙ ap (map (shown_at named)) kept_same
