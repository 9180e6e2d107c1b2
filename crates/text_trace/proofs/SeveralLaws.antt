-- The rows of a text of several objects.
use Rattle.text_trace.proofs.Names.{nat_tests, eqb-true, eqb-false, ◌≡◌, ℕ, zero, suc, ◌+◌, ◌<◌, ◌≤◌, ◌==◌, Bool, true, false, cond, List, [], ◌∷◌, ◌++◌, length, map, drop, get_or, slice_get, replicate, codes, string_bytes, Option, Some, None, Result, Ok, Err, IfSome, refl, sym, subst, ◌∙◌, ap, drop_all, arith, decimal, Arithmetic, Object, HoldKind, Event, hold_of, table_of, word_in, hold_among, call_of, holds_of, is_quiet, IsQuiet, Numerals, FaultyLine, Texts, act_words, standing_words, words_text, text_at, holders, with_holder, or_dash, for_each, Row, Entry, entries, added_often, trimmed_to, lines_of, String, Global}
use Rattle.model_room.specs.Room.{Seating, StandsAt}
use Rattle.model_room.specs.Runs.{events_of}
use Rattle.model_room.specs.declared.event.RoomEvent.{RoomEvent}
use Rattle.std.specs.Str.Lossy.{utf8_lossy}
use Rattle.text_room.specs.Walk.{Opened, Walk, steps_then, nothing, opened, IsNextStride, after_times}
unfoldable use Rattle.text_room.specs.Walk.{go_walk}
use Rattle.text_room.specs.declared.walk.Rest.{Rest}
use Rattle.text_room.specs.declared.walk.Step.{Step}
use Rattle.text_room.specs.declared.walk.Stride.{Stride}
use Rattle.text_room.proofs.LastLaws.{drop_there}
use Rattle.text_room.proofs.PlayLaws.{fault_then}
use Rattle.text_trace.specs.declared.several.Setting.{Setting}
use Rattle.text_trace.specs.Several.{step_there, hold_there, hold_at, holders_of_each, words_there, titles_of, cells_at, cells_in, walk_in, HasAdded, rows_from, rows_opened, rows_or_fault, rows_of}
use Rattle.text_trace.specs.Trace.{RowsAndFault, no_rows, rows_with}
use Rattle.text_trace.proofs.QuietLaws.{act_holds, words_again}
use Rattle.text_trace.proofs.TraceLaws.{IsHalfway, Strides, goes_on}

-- An item of a list, as it is looked up.
pub item_there : {A : Type 0} (xs : List A) (k : ℕ) (x : A) → slice_get xs k ≡ Some x → x ≡ get_or xs k x
item_there [] k x got = absurd cc
item_there (y ∷ xs) zero x got = let is : y ≡ x = cc in sym is
item_there (y ∷ xs) (suc k) x got = item_there xs k x got

pub index_there : {A : Type 0} (xs : List A) (k : ℕ) (x y d : A) → k < length xs → slice_get xs k ≡ Some x → y ≡ get_or xs k d → x ≡ y
index_there [] k x y d below got is = absurd (omega (arith, below))
index_there (a ∷ xs) zero x y d below got is = let same : a ≡ x = cc in sym same ∙ sym is
index_there (a ∷ xs) (suc k) x y d below got is = index_there xs k x y d (omega (arith, below)) got is

none_there : {A : Type 0} (xs : List A) (k : ℕ) → length xs ≤ k → slice_get xs k ≡ None
none_there [] k beyond = refl
none_there (x ∷ xs) zero beyond = absurd (omega (arith, beyond))
none_there (x ∷ xs) (suc k) beyond = none_there xs k (omega (arith, beyond))

-- One more of an event adds to the events of its object alone.
events_again : {T X : Type 0} (k : ℕ) (e : RoomEvent T) (past : List (RoomEvent T)) (F : List (Event T) → X) → ((there : List (Event T)) → F (e.event ∷ e.event ∷ there) ≡ F (e.event ∷ there)) → F (events_of k (e ∷ e ∷ past)) ≡ F (events_of k (e ∷ past))
events_again {T} {X} k e past F again = decided (e.object == k)
  where
    there : List (Event T)
    there = events_of k past

    decided : (b : Bool) → F (cond b (e.event ∷ cond b (e.event ∷ there) there) (cond b (e.event ∷ there) there)) ≡ F (cond b (e.event ∷ there) there)
    decided true = again there
    decided false = refl

module _ {T : Type 0} (z : Arithmetic T) where
  hold_again : (o : Object T) (party : ℕ) (e : Event T) (there : List (Event T)) → is_quiet e.act ≡ true → hold_of (table_of z o) party (e ∷ e ∷ there) ≡ hold_of (table_of z o) party (e ∷ there)
  hold_again o party e there quiet = ap (hold_among party) (act_holds (table_of z o) e.party e.act (call_of e.party (e ∷ there)) (holds_of (table_of z o) (e ∷ there)) quiet)

  holders_again : (o : Object T) (name front : List ℕ) (e : Event T) (there : List (Event T)) (parties : ℕ) → is_quiet e.act ≡ true → holders z o name front (e ∷ e ∷ there) parties ≡ holders z o name front (e ∷ there) parties
  holders_again o name front e there zero quiet = refl
  holders_again o name front e there (suc party) quiet =
      ap (λ (l : List ℕ). with_holder o name l party (hold_of (table_of z o) party (e ∷ e ∷ there))) (holders_again o name front e there party quiet)
      ∙ ap (λ (h : Option HoldKind). with_holder o name (holders z o name front (e ∷ there) party) party h) (hold_again o party e there quiet)

  hold_there_again : (o : Option (Object T)) (e : RoomEvent T) (past : List (RoomEvent T)) (k party : ℕ) → is_quiet e.event.act ≡ true → hold_there z o (e ∷ e ∷ past) k party ≡ hold_there z o (e ∷ past) k party
  hold_there_again None e past k party quiet = refl
  hold_there_again (Some o) e past k party quiet = events_again k e past (λ there. hold_of (table_of z o) party there) (λ there. hold_again o party e.event there quiet)

  holders_all_again : (names : List (List ℕ)) (parties : ℕ) (e : RoomEvent T) (past : List (RoomEvent T)) (k : ℕ) (objects : List (Object T)) (front : List ℕ) → is_quiet e.event.act ≡ true →
      holders_of_each z names parties (e ∷ e ∷ past) k objects front ≡ holders_of_each z names parties (e ∷ past) k objects front
  holders_all_again names parties e past k [] front quiet = refl
  holders_all_again names parties e past k (o ∷ objects) front quiet =
      ap (λ (l : List ℕ). holders_of_each z names parties (e ∷ e ∷ past) (suc k) objects l) (events_again k e past (λ there. holders z o (text_at names k) front there parties) (λ there. holders_again o (text_at names k) front e.event there parties quiet))
      ∙ holders_all_again names parties e past (suc k) objects (holders z o (text_at names k) front (events_of k (e ∷ past)) parties) quiet

  pub holds_none : (objects : List (Object T)) (past : List (RoomEvent T)) (k party : ℕ) → length objects ≤ k → None ≡ hold_at z objects past k party
  holds_none objects past k party beyond = sym (ap (λ (o : Option (Object T)). hold_there z o past k party) (none_there objects k beyond))

  pub holds_some : (objects : List (Object T)) (past : List (RoomEvent T)) (k party : ℕ) (o : Object T) (hold : Option HoldKind) → slice_get objects k ≡ Some o → hold ≡ hold_of (table_of z o) party (events_of k past) → hold ≡ hold_at z objects past k party
  holds_some objects past k party o hold there is = is ∙ sym (ap (λ (o : Option (Object T)). hold_there z o past k party) there)

  -- The holders are printed object by object.

  abbrev pub PrintsHolders : List (List ℕ) → List (Object T) → ℕ → List (RoomEvent T) → ℕ → List ℕ → Type 0
  PrintsHolders names objects parties past k text = holders_of_each z names parties past k (drop k objects) text ≡ holders_of_each z names parties past 0 objects []

  pub prints_holders : (names : List (List ℕ)) (objects : List (Object T)) (parties : ℕ) (past : List (RoomEvent T)) (k : ℕ) (text text' : List ℕ) (o : Object T) → slice_get objects k ≡ Some o → PrintsHolders names objects parties past k text →
      text' ≡ holders z o (text_at names k) text (events_of k past) parties → PrintsHolders names objects parties past (k + 1) text'
  prints_holders names objects parties past k text text' o there before is =
      let next : suc k ≡ k + 1 = omega arith in
      subst (λ (j : ℕ). PrintsHolders names objects parties past j text') next
      (ap (λ (l : List ℕ). holders_of_each z names parties past (suc k) (drop (suc k) objects) l) is
      ∙ sym (ap (λ (l : List (Object T)). holders_of_each z names parties past k l text) (drop_there objects k o there)) ∙ before)

  pub prints_all_holders : (names : List (List ℕ)) (objects : List (Object T)) (parties : ℕ) (past : List (RoomEvent T)) (k : ℕ) (text : List ℕ) → length objects ≤ k → PrintsHolders names objects parties past k text → text ≡ holders_of_each z names parties past 0 objects []
  prints_all_holders names objects parties past k text beyond before = sym (ap (λ (l : List (Object T)). holders_of_each z names parties past k l text) (drop_all k objects beyond)) ∙ before

module _ {T : Type 0} (z : Arithmetic T) (numerals : Numerals T) where
  words_all_again : (e : RoomEvent T) (past : List (RoomEvent T)) (k : ℕ) (objects : List (Object T)) → is_quiet e.event.act ≡ true →
      for_each (words_there z numerals (e ∷ e ∷ past)) k objects ≡ for_each (words_there z numerals (e ∷ past)) k objects
  words_all_again e past k [] quiet = refl
  words_all_again e past k (o ∷ objects) quiet =
      ap (λ (t : List ℕ). t ∷ for_each (words_there z numerals (e ∷ e ∷ past)) (suc k) objects) (events_again k e past (λ there. words_text z numerals o (word_in z o there)) (λ there. words_again z numerals o e.event there quiet))
      ∙ ap (λ (l : List (List ℕ)). words_text z numerals o (word_in z o (events_of k (e ∷ past))) ∷ l) (words_all_again e past (suc k) objects quiet)

  -- The cells of a step.

  -- by what of the past they tell
  abbrev telling : List (List ℕ) → Step T → Option HoldKind → List (List ℕ) → List ℕ → Texts T
  telling names step hold words held =
      record {
        step = step_there step;
        object = step.event.object;
        hold = hold;
        line = decimal step.line;
        party = decimal (step.event.event.party + 1);
        act = (text_at names step.event.object ++ codes ": ") ++ act_words numerals step.event.event.act;
        words = words;
        holds = or_dash held;
        call = standing_words numerals step.event.event.act step.event.event.then;
      }

  cells_again : (names : List (List ℕ)) (objects : List (Object T)) (parties : ℕ) (step : Step T) (past : List (RoomEvent T)) → is_quiet step.event.event.act ≡ true →
      cells_at z numerals names objects parties (step.event ∷ step.event ∷ past) step ≡ cells_at z numerals names objects parties (step.event ∷ past) step
  cells_again names objects parties step past quiet =
      let e = step.event in
      let words = for_each (words_there z numerals (e ∷ e ∷ past)) 0 objects in
      let held = holders_of_each z names parties (e ∷ e ∷ past) 0 objects [] in
      ap (λ (h : Option HoldKind). telling names step h words held) (hold_there_again z (slice_get objects e.object) e past e.object e.event.party quiet)
      ∙ ap (λ (w : List (List ℕ)). telling names step (hold_at z objects (e ∷ past) e.object e.event.party) w held) (words_all_again e past 0 objects quiet)
      ∙ ap (λ (l : List ℕ). telling names step (hold_at z objects (e ∷ past) e.object e.event.party) (for_each (words_there z numerals (e ∷ past)) 0 objects) l) (holders_all_again z names parties e past 0 objects [] quiet)

  -- A walk.

  abbrev event_in : Step T → RoomEvent T
  event_in step = step.event

  -- Some steps of it were added, and the others are still to come.
  abbrev pub IsOnWay : Option ℕ → Setting T → List (RoomEvent T) → Rest T → Rest T → List (Row T) → List (Row T) → Seating T → Type 0
  IsOnWay most setting past first rest old new room =
      IsHalfway event_in (cells_in z numerals setting) most past (walk_in z numerals setting past first).steps (walk_in z numerals setting past first).fault
      (λ here. (walk_in z numerals setting here rest).steps) (λ here. (walk_in z numerals setting here rest).fault) (λ here. StandsAt z setting.objects.now setting.parties here room) old new

  pub begins : (most : Option ℕ) (setting : Setting T) (past : List (RoomEvent T)) (rest : Rest T) (rows : List (Row T)) (room : Seating T) → StandsAt z setting.objects.now setting.parties past room → IsOnWay most setting past rest rest rows rows room
  begins most setting past rest rows room stands = record { here = past; stands = stands; rows = refl; fault_is = refl; events = refl }

  -- a stride, whatever run stands at the room
  abbrev WalksOn : Setting T → Rest T → Rest T → Seating T → Seating T → Result (Option (Stride T)) FaultyLine → Type 0
  WalksOn setting old new room room' told =
      (parties : ℕ) (past : List (RoomEvent T)) → StandsAt z setting.objects.now parties past room → IsNextStride z numerals (map (λ name. name.now) setting.names.now) setting.objects.now parties past old new room' told

  steps_in : (n : ℕ) (step : Step T) (walk : Walk T) → (steps_then (replicate n step) walk).steps ≡ replicate n step ++ walk.steps
  steps_in zero step walk = refl
  steps_in (suc n) step walk = ap (λ (l : List (Step T)). step ∷ l) (steps_in n step walk)

  pub walks_on : (most : Option ℕ) (setting : Setting T) (past : List (RoomEvent T)) (first rest rest' : Rest T) (old rows more rows' : List (Row T)) (room room' : Seating T) (told : Option (Stride T)) (stride : Stride T) (cells : Texts T) → told ≡ Some stride →
      IsOnWay most setting past first rest old rows room → WalksOn setting rest rest' room room' (Ok told) → IfSome told (λ s. 1 < s.times → IsQuiet s.step.event.event) →
      ((here : List (RoomEvent T)) → StandsAt z setting.objects.now setting.parties here room' → cells ≡ cells_in z numerals setting here stride.step) → entries more ≡ added_often stride.times cells (entries rows) → entries rows' ≡ trimmed_to most (entries more) →
      IsOnWay most setting past first rest' old rows' room'
  walks_on most setting past first rest rest' old rows more rows' room room' told stride cells some h walks leaves reads is trims =
      let quiet = subst (λ (x : Option (Stride T)). IfSome x (λ s. 1 < s.times → IsQuiet s.step.event.event)) some leaves in
      goes_on event_in (cells_in z numerals setting) most past _ _ _ _ _ _ _ _ old rows more rows' stride.times stride.step cells h strides
      (λ many past. cells_again (map string_bytes setting.shown.now) setting.objects.now setting.parties stride.step past (quiet many).act) reads is trims
    where
      strides : (here : List (RoomEvent T)) → StandsAt z setting.objects.now setting.parties here room →
          Strides event_in (cells_in z numerals setting) (λ here. (walk_in z numerals setting here rest).steps) (λ here. (walk_in z numerals setting here rest').steps)
          (λ here. (walk_in z numerals setting here rest).fault) (λ here. (walk_in z numerals setting here rest').fault) (λ here. StandsAt z setting.objects.now setting.parties here room') stride.times stride.step here
      strides here stands =
          let names = map (λ name. name.now) setting.names.now in
          let next = subst (λ (x : Option (Stride T)). IsNextStride z numerals names setting.objects.now setting.parties here rest rest' room' (Ok x)) some (walks setting.parties here stands) in
          let walk : Walk T = walk_in z numerals setting (after_times stride.times stride.step.event here) rest' in (
            ap (λ (w : Walk T). w.steps) next.0 ∙ steps_in stride.times stride.step walk,
            ap (λ (w : Walk T). w.fault) next.0 ∙ fault_then z numerals names setting.objects.now setting.parties stride.times stride.step walk,
            next.1,
          )

  pub ends : (most : Option ℕ) (setting : Setting T) (past : List (RoomEvent T)) (first rest rest' : Rest T) (old rows : List (Row T)) (room room' : Seating T) (told : Option (Stride T)) → told ≡ None → IsOnWay most setting past first rest old rows room →
      WalksOn setting rest rest' room room' (Ok told) → HasAdded z numerals most setting past first old rows None
  ends most setting past first rest rest' old rows room room' told h1 h2 h3 = grind (arith, nat_tests, eqb-true, eqb-false)

  pub fails : (most : Option ℕ) (setting : Setting T) (past : List (RoomEvent T)) (first rest rest' : Rest T) (old rows : List (Row T)) (room room' : Seating T) (fault : FaultyLine) → IsOnWay most setting past first rest old rows room →
      WalksOn setting rest rest' room room' (Err fault) → HasAdded z numerals most setting past first old rows (Some fault)
  fails most setting past first rest rest' old rows room room' fault h1 h2 = grind (arith, nat_tests, eqb-true, eqb-false)

  -- A text.

  made : List (List ℕ) → List (Entry T) → Option FaultyLine → RowsAndFault T
  made titles rows fault = record { titles = titles; rows = rows; fault = fault }

  pub rows_read : (setting : Setting T) (rest : Rest T) (titles : List (List ℕ)) (none rows : List (Row T)) (fault : Option FaultyLine) → titles ≡ titles_of (map string_bytes setting.shown.now) → none ≡ [] → HasAdded z numerals None setting [] rest none rows fault →
      record { titles = titles; rows = entries rows; fault = fault } ≡ rows_from z numerals setting rest
  unfolding made
  rows_read setting rest titles none rows fault titled empty added =
      let walk = walk_in z numerals setting [] rest in
      let all : List (List ℕ) = titles_of (map string_bytes setting.shown.now) in
      let read : entries rows ≡ rows_with event_in (cells_in z numerals setting) [] walk.steps [] = added.0 ∙ ap (λ (l : List (Row T)). rows_with event_in (cells_in z numerals setting) [] walk.steps (entries l)) empty in
      ap (λ (t : List (List ℕ)). made t (entries rows) fault) titled ∙ ap (λ (l : List (Entry T)). made all l fault) read ∙ ap (λ (f : Option FaultyLine). made all (rows_with event_in (cells_in z numerals setting) [] walk.steps []) f) added.1

  -- the walk of what is left after the lines that name objects is that of the lines after these
  pub rows_left : (setting : Setting T) (found : Opened T) (rest : Rest T) → map (λ name. name.now) setting.names.now ≡ found.names → map string_bytes setting.shown.now ≡ map utf8_lossy found.names → setting.objects.now ≡ found.objects → setting.parties ≡ found.parties →
      rest.left ≡ nothing → found.line ≡ rest.line → found.lines ≡ lines_of rest.lines.now → rows_from z numerals setting rest ≡ rows_opened z numerals found
  unfolding go_walk
  rows_left setting found rest names shown objects parties left line lines = rw (names, shown, objects, parties, left, line, lines) refl

  pub opens_none : (lines : List (List ℕ)) (fault : FaultyLine) → opened numerals lines ≡ Err fault → no_rows fault ≡ rows_of z numerals lines
  unfolding rows_of
  opens_none lines fault is = sym (ap (rows_or_fault z numerals) is)

  pub opens : (lines : List (List ℕ)) (found : Opened T) → opened numerals lines ≡ Ok found → rows_opened z numerals found ≡ rows_of z numerals lines
  unfolding rows_of
  opens lines found is = sym (ap (rows_or_fault z numerals) is)
