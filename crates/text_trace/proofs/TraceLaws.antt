-- The rows of a walk, one more step at a time.
use Rattle.text_trace.proofs.Names.{nat_tests, eqb-true, eqb-false, ◌≡◌, ℕ, zero, suc, ◌<◌, IfSome, arith, ◌++◌, map, string_bytes, String, Global, refl, sym, ◌∙◌, ap, subst, List, [], ◌∷◌, Option, Some, None, Result, Ok, Err, replicate, Event, Object, Arithmetic, after, Configuration, StandsAt, IsQuiet, Header, lines_of, FaultyLine, Step, Walk, steps_then, nothing, go_walk, lines_walk, opened, rest_walk, after_times, IsNextStride, Numerals, Row, Texts, cells_at, Entry, entries, added, added_often, trimmed_to, table}
use Rattle.sync_play.specs.declared.walk.Rest.{Rest}
use Rattle.sync_play.specs.declared.walk.Stride.{Stride}
use Rattle.sync_play.proofs.PlayLaws.{fault_then}
use Rattle.sync_play.proofs.TextLaws.{after_both}
use Rattle.text_trace.specs.declared.trace.Rows.{Rows}
use Rattle.text_trace.proofs.QuietLaws.{cells_again}
use Rattle.text_trace.proofs.RowLaws.{trimmed_folded}
use Rattle.text_trace.specs.Trace.{rows_with, cells_along, HasAdded, RowsAndFault, rows_of_walk, rows_of_opened, rows_of, rows_told, one_title, Written, written}

-- Of one object or of several, by the cells that a step has after the events up to its own.
module _ {E S T : Type 0} (event : S → E) (cells : List E → S → Texts T) where
  -- one more of a step reads as it does
  abbrev pub ReadsAgain : S → Type 0
  ReadsAgain step = (past : List E) → cells (event step ∷ event step ∷ past) step ≡ cells (event step ∷ past) step

  abbrev pub often : ℕ → S → List E → List E
  often n step past = after (replicate n (event step)) past

  cells_after : (step : S) (n : ℕ) (past : List E) → ReadsAgain step → cells (often n step (event step ∷ past)) step ≡ cells (event step ∷ past) step
  cells_after step zero past again = refl
  cells_after step (suc n) past again = cells_after step n (event step ∷ past) again ∙ again past

  -- equal steps of which each reads as the first, and then others
  rows_along : (step : S) (n : ℕ) (past : List E) (steps : List S) (read : Texts T) (rows : List (Entry T)) → (1 < n → ReadsAgain step) → (0 < n → cells (event step ∷ past) step ≡ read) →
      rows_with event cells past (replicate n step ++ steps) rows ≡ rows_with event cells (often n step past) steps (added_often n read rows)
  rows_along step zero past steps read rows again reads = refl
  rows_along step (suc zero) past steps read rows again reads =
      ap (λ (t : Texts T). rows_with event cells (event step ∷ past) steps (added t rows)) (reads (omega arith))
  rows_along step (suc (suc n)) past steps read rows again reads =
      let still : ReadsAgain step = again (omega arith) in
      let first = reads (omega arith) in
      ap (λ (t : Texts T). rows_with event cells (event step ∷ past) (replicate (suc n) step ++ steps) (added t rows)) first
      ∙ rows_along step (suc n) (event step ∷ past) steps read (added read rows) (λ more. still) (λ some. still past ∙ first)

  -- what the last of so many reads, each of them reads
  reads_first : (step : S) (n : ℕ) (past : List E) (read : Texts T) → (1 < n → ReadsAgain step) → read ≡ cells (often n step past) step → 0 < n → cells (event step ∷ past) step ≡ read
  reads_first step zero past read again reads some = absurd (omega (arith, some))
  reads_first step (suc zero) past read again reads some = sym reads
  reads_first step (suc (suc n)) past read again reads some = sym (reads ∙ cells_after step (suc n) past (again (omega arith)))

  events_along : (n : ℕ) (step : S) (steps : List S) → map event (replicate n step ++ steps) ≡ replicate n (event step) ++ map event steps
  events_along zero step steps = refl
  events_along (suc n) step steps = ap (λ (l : List E). event step ∷ l) (events_along n step steps)

  -- Of these steps some were added, and others are still to come: those that are left after the events so far. Then comes this fault, if any.
  pub record IsHalfway (most : Option ℕ) (past : List E) (first : List S) (first_fault : Option FaultyLine) (left : List E → List S) (fault : List E → Option FaultyLine) (Stands : List E → Type 0) (old new : List (Row T)) : Type 0 where
    pub here : List E
    pub stands : Stands here
    pub rows : trimmed_to most (rows_with event cells past first (entries old)) ≡ trimmed_to most (rows_with event cells here (left here) (entries new))
    pub fault_is : first_fault ≡ fault here
    pub events : after (map event first) past ≡ after (map event (left here)) here

  -- the next steps are so many of this one, and then those that are left
  abbrev pub Strides : (left left' : List E → List S) (fault fault' : List E → Option FaultyLine) (Stands' : List E → Type 0) → ℕ → S → List E → Type 0
  Strides left left' fault fault' Stands' n step here =
      (left here ≡ replicate n step ++ left' (often n step here)) × (fault here ≡ fault' (often n step here)) × Stands' (often n step here)

  pub goes_on : (most : Option ℕ) (past : List E) (first : List S) (first_fault : Option FaultyLine) (left left' : List E → List S) (fault fault' : List E → Option FaultyLine) (Stands Stands' : List E → Type 0) (old rows more rows' : List (Row T)) (n : ℕ) (step : S) (read : Texts T) →
      IsHalfway most past first first_fault left fault Stands old rows → ((here : List E) → Stands here → Strides left left' fault fault' Stands' n step here) → (1 < n → ReadsAgain step) → ((there : List E) → Stands' there → read ≡ cells there step) →
      entries more ≡ added_often n read (entries rows) → entries rows' ≡ trimmed_to most (entries more) → IsHalfway most past first first_fault left' fault' Stands' old rows'
  goes_on most past first first_fault left left' fault fault' Stands Stands' old rows more rows' n step read h strides again reads is trims =
      let next = strides h.here h.stands in
      let there = often n step h.here in
      let steps = left' there in
      let added : rows_with event cells h.here (left h.here) (entries rows) ≡ rows_with event cells there steps (entries more) =
      ap (λ (l : List S). rows_with event cells h.here l (entries rows)) next.0
      ∙ rows_along step n h.here steps read (entries rows) again (reads_first step n h.here read again (reads there next.2))
      ∙ ap (λ (l : List (Entry T)). rows_with event cells there steps l) (sym is) in
      record {
        here = there;
        stands = next.2;
        rows = h.rows ∙ ap (trimmed_to most) added ∙ sym (trimmed_folded most (cells_along event cells there steps) (entries more))
            ∙ ap (λ (l : List (Entry T)). trimmed_to most (rows_with event cells there steps l)) (sym trims);
        fault_is = h.fault_is ∙ next.1;
        events = h.events ∙ ap (λ (l : List S). after (map event l) h.here) next.0 ∙ ap (λ (l : List E). after l h.here) (events_along n step steps)
            ∙ after_both (replicate n (event step)) (map event steps) h.here;
      }

module _ {T : Type 0} (z : Arithmetic T) (numerals : Numerals T) where
  abbrev Ev : Type 0
  Ev = Event T

  abbrev event_in : Step T → Ev
  event_in step = step.event

  -- Some steps of the walk were added, and the others are still to come.
  abbrev pub IsOnWay : Option ℕ → Header T → List Ev → Rest T → Rest T → List (Row T) → List (Row T) → Configuration T → Type 0
  IsOnWay most header past first rest old new machine =
      IsHalfway event_in (cells_at z numerals header) most past (rest_walk z numerals header.object header.parties past first).steps (rest_walk z numerals header.object header.parties past first).fault
      (λ here. (rest_walk z numerals header.object header.parties here rest).steps) (λ here. (rest_walk z numerals header.object header.parties here rest).fault) (λ here. StandsAt z header.object header.parties here machine) old new

  pub begins : (most : Option ℕ) (header : Header T) (past : List Ev) (rest : Rest T) (rows : List (Row T)) (machine : Configuration T) → StandsAt z header.object header.parties past machine → IsOnWay most header past rest rest rows rows machine
  begins most header past rest rows machine stands = record { here = past; stands = stands; rows = refl; fault_is = refl; events = refl }

  -- a stride, whatever run stands at the machine
  abbrev WalksOn : Rest T → Rest T → Configuration T → Configuration T → Result (Option (Stride T)) FaultyLine → Type 0
  WalksOn old new machine machine' told = (o : Object T) (parties : ℕ) (past : List Ev) → StandsAt z o parties past machine → IsNextStride z numerals o parties past old new machine' told

  steps_in : (n : ℕ) (step : Step T) (walk : Walk T) → (steps_then (replicate n step) walk).steps ≡ replicate n step ++ walk.steps
  steps_in zero step walk = refl
  steps_in (suc n) step walk = ap (λ (l : List (Step T)). step ∷ l) (steps_in n step walk)

  pub walks_on : (most : Option ℕ) (header : Header T) (past : List Ev) (first rest rest' : Rest T) (old rows more rows' : List (Row T)) (machine machine' : Configuration T) (told : Option (Stride T)) (stride : Stride T) (cells : Texts T) → told ≡ Some stride →
      IsOnWay most header past first rest old rows machine → WalksOn rest rest' machine machine' (Ok told) → IfSome told (λ s. 1 < s.times → IsQuiet s.step.event) →
      ((here : List Ev) → StandsAt z header.object header.parties here machine' → cells ≡ cells_at z numerals header here stride.step) → entries more ≡ added_often stride.times cells (entries rows) → entries rows' ≡ trimmed_to most (entries more) →
      IsOnWay most header past first rest' old rows' machine'
  walks_on most header past first rest rest' old rows more rows' machine machine' told stride cells some h walks leaves reads is trims =
      let quiet = subst (λ (x : Option (Stride T)). IfSome x (λ s. 1 < s.times → IsQuiet s.step.event)) some leaves in
      goes_on event_in (cells_at z numerals header) most past _ _ _ _ _ _ _ _ old rows more rows' stride.times stride.step cells h strides (λ many past. cells_again z numerals header stride.step past (quiet many).act) reads is trims
    where
      strides : (here : List Ev) → StandsAt z header.object header.parties here machine →
          Strides event_in (cells_at z numerals header) (λ here. (rest_walk z numerals header.object header.parties here rest).steps) (λ here. (rest_walk z numerals header.object header.parties here rest').steps)
          (λ here. (rest_walk z numerals header.object header.parties here rest).fault) (λ here. (rest_walk z numerals header.object header.parties here rest').fault) (λ here. StandsAt z header.object header.parties here machine') stride.times stride.step here
      strides here stands =
          let next = subst (λ (x : Option (Stride T)). IsNextStride z numerals header.object header.parties here rest rest' machine' (Ok x)) some (walks header.object header.parties here stands) in
          let walk : Walk T = rest_walk z numerals header.object header.parties (after_times stride.times stride.step.event here) rest' in (
            ap (λ (w : Walk T). w.steps) next.0 ∙ steps_in stride.times stride.step walk,
            ap (λ (w : Walk T). w.fault) next.0 ∙ fault_then z numerals stride.times stride.step walk,
            next.1,
          )

  pub ends : (most : Option ℕ) (header : Header T) (past : List Ev) (first rest rest' : Rest T) (old rows : List (Row T)) (machine machine' : Configuration T) (told : Option (Stride T)) → told ≡ None → IsOnWay most header past first rest old rows machine →
      WalksOn rest rest' machine machine' (Ok told) → HasAdded z numerals most header past (rest_walk z numerals header.object header.parties past first) old rows None
  ends most header past first rest rest' old rows machine machine' told h1 h2 h3 = grind (arith, nat_tests, eqb-true, eqb-false)

  pub fails : (most : Option ℕ) (header : Header T) (past : List Ev) (first rest rest' : Rest T) (old rows : List (Row T)) (machine machine' : Configuration T) (fault : FaultyLine) → IsOnWay most header past first rest old rows machine →
      WalksOn rest rest' machine machine' (Err fault) → HasAdded z numerals most header past (rest_walk z numerals header.object header.parties past first) old rows (Some fault)
  fails most header past first rest rest' old rows machine machine' fault h1 h2 = grind (arith, nat_tests, eqb-true, eqb-false)

  -- A text.

  made : List (List ℕ) → List (Entry T) → Option FaultyLine → RowsAndFault T
  made titles rows fault = record { titles = titles; rows = rows; fault = fault }

  pub opens_none : (lines titles : List (List ℕ)) (rows : List (Row T)) (fault : FaultyLine) → opened numerals lines ≡ Err fault → titles ≡ one_title → rows ≡ [] → record { titles = titles; rows = entries rows; fault = Some fault } ≡ rows_of z numerals lines
  unfolding rows_of made
  opens_none lines titles rows fault is titled none =
      ap (λ (t : List (List ℕ)). made t (entries rows) (Some fault)) titled ∙ ap (λ (l : List (Row T)). made one_title (entries l) (Some fault)) none ∙ sym (ap (rows_of_opened z numerals) is)

  pub walk_opened : (lines : List (List ℕ)) (header : Header T) (rest : Rest T) → opened numerals lines ≡ Ok (header, lines_of rest.lines.now) → rest.line ≡ 1 → rest.left ≡ nothing →
      rows_of_walk z numerals header (rest_walk z numerals header.object header.parties [] rest) ≡ rows_of z numerals lines
  unfolding rows_of go_walk
  walk_opened lines header rest is line left =
      let same : rest_walk z numerals header.object header.parties [] rest ≡ lines_walk z numerals header.object header.parties 2 (lines_of rest.lines.now) [] = rw (line, left) refl in
      ap (λ (w : Walk T). rows_of_walk z numerals header w) same ∙ sym (ap (rows_of_opened z numerals) is)

  -- the rows of a text are those of the walk of its lines after the first
  pub rows_opened : (lines : List (List ℕ)) (header : Header T) (rest : Rest T) → opened numerals lines ≡ Ok (header, lines_of rest.lines.now) → rest.line ≡ 1 → rest.left ≡ nothing →
      rows_with event_in (cells_at z numerals header) [] (rest_walk z numerals header.object header.parties [] rest).steps [] ≡ (rows_of z numerals lines).rows
  rows_opened lines header rest is line left = ap (λ (r : RowsAndFault T). r.rows) (walk_opened lines header rest is line left)

  pub rows_read : (lines : List (List ℕ)) (header : Header T) (rest : Rest T) (titles : List (List ℕ)) (none rows : List (Row T)) (fault : Option FaultyLine) → opened numerals lines ≡ Ok (header, lines_of rest.lines.now) → rest.line ≡ 1 → rest.left ≡ nothing → titles ≡ one_title → none ≡ [] →
      HasAdded z numerals None header [] (rest_walk z numerals header.object header.parties [] rest) none rows fault → record { titles = titles; rows = entries rows; fault = fault } ≡ rows_of z numerals lines
  unfolding made
  rows_read lines header rest titles none rows fault is line left titled empty added =
      let walk = rest_walk z numerals header.object header.parties [] rest in
      let all = rows_with event_in (cells_at z numerals header) [] walk.steps [] in
      let read : entries rows ≡ all = added.0 ∙ ap (λ (l : List (Row T)). rows_with event_in (cells_at z numerals header) [] walk.steps (entries l)) empty in
      ap (λ (t : List (List ℕ)). made t (entries rows) fault) titled ∙ ap (λ (l : List (Entry T)). made one_title l fault) read ∙ ap (λ (f : Option FaultyLine). made one_title all f) added.1
      ∙ walk_opened lines header rest is line left

pub written_so : {T : Type 0} (found : Rows T) (titles : List (String Global)) (rows : List (Row T)) (out bytes : List ℕ) → titles ≡ found.titles.items → rows ≡ found.rows.items → out ≡ table (map string_bytes titles) (entries rows) → bytes ≡ out →
    record { bytes = bytes; fault = found.fault } ≡ written (rows_told found)
unfolding written
written_so {T} found titles rows out bytes titled same laid is =
    shown (is ∙ laid ∙ ap (λ (t : List (String Global)). table (map string_bytes t) (entries rows)) titled ∙ ap (λ (l : List (Row T)). table (map string_bytes found.titles.items) (entries l)) same)
  where
    as_written : List ℕ → Written
    as_written all = record { bytes = all; fault = found.fault }

    shown : {all : List ℕ} → bytes ≡ all → as_written bytes ≡ as_written all
    shown e = ap as_written e
