-- The rows of a text of several objects.
use Rattle.std.specs.Prelude.{ℕ, suc, ◌+◌, List, [], ◌∷◌, ◌++◌, map, slice_get, Option, Some, None, Result, Ok, Err, codes, string_bytes}
use Rattle.std.specs.Str.Lossy.{utf8_lossy}
use Rattle.text_trace.specs.Names.{decimal, HoldKind, Object, Arithmetic, after, hold_of, table_of, word_in, Numerals, FaultyLine, Step}
use Rattle.model_room.specs.Room.{Seating, StandsAt}
use Rattle.model_room.specs.Runs.{events_of}
use Rattle.model_room.specs.declared.event.RoomEvent.{RoomEvent}
use Rattle.text_room.specs.Output.{events_in}
use Rattle.text_room.specs.Walk.{Opened, Walk, opened, lines_walk, rest_walk}
use Rattle.text_room.specs.declared.walk.Rest.{Rest}
use Rattle.text_room.specs.declared.walk.Step as room
use Rattle.text_trace.specs.declared.several.Setting.{Setting}
use Rattle.text_trace.specs.declared.rows.Row.{Row}
use Rattle.text_trace.specs.Each.{for_each}
use Rattle.text_trace.specs.Cells.{Texts, act_words, standing_words, words_text, holders, or_dash}
use Rattle.text_trace.specs.Table.{text_at}
use Rattle.text_trace.specs.Trace.{RowsAndFault, no_rows, unless_fault, rows_with, Adds}

-- the words of each object have a title
abbrev pub title_of : List ℕ → List ℕ
title_of name = name ++ codes ".word"

abbrev pub titles_of : List (List ℕ) → List (List ℕ)
titles_of names = map title_of names

-- a step as one of its object alone
abbrev pub step_there : {T : Type 0} → room.Step T → Step T
step_there step = record { line = step.line; event = step.event.event }

module _ {T : Type 0} (z : Arithmetic T) where
  abbrev pub hold_there : Option (Object T) → List (RoomEvent T) → ℕ → ℕ → Option HoldKind
  hold_there None past k party = None
  hold_there (Some o) past k party = hold_of (table_of z o) party (events_of k past)

  -- what a party holds of an object after the events
  abbrev pub hold_at : List (Object T) → List (RoomEvent T) → ℕ → ℕ → Option HoldKind
  hold_at objects past k party = hold_there (slice_get objects k) past k party

  -- after others, who holds something of the objects from this place on, each by its own events
  abbrev pub holders_of_each : List (List ℕ) → ℕ → List (RoomEvent T) → ℕ → List (Object T) → List ℕ → List ℕ
  holders_of_each names parties past k [] front = front
  holders_of_each names parties past k (o ∷ objects) front = holders_of_each names parties past (suc k) objects (holders z o (text_at names k) front (events_of k past) parties)

module _ {T : Type 0} (z : Arithmetic T) (numerals : Numerals T) where
  -- the words of an object after its own events
  abbrev pub words_there : List (RoomEvent T) → ℕ → Object T → List (List ℕ)
  words_there past k o = words_text z numerals o (word_in z o (events_of k past)) ∷ []

  -- the cells of a step, after which the events are these
  abbrev pub cells_at : List (List ℕ) → List (Object T) → ℕ → List (RoomEvent T) → room.Step T → Texts T
  cells_at names objects parties past step =
      record {
        step = step_there step;
        object = step.event.object;
        hold = hold_at z objects past step.event.object step.event.event.party;
        line = decimal step.line;
        party = decimal (step.event.event.party + 1);
        act = (text_at names step.event.object ++ codes ": ") ++ act_words numerals step.event.event.act;
        words = for_each (words_there past) 0 objects;
        holds = or_dash (holders_of_each z names parties past 0 objects []);
        call = standing_words numerals step.event.event.act step.event.event.then;
      }

  abbrev pub cells_in : Setting T → List (RoomEvent T) → room.Step T → Texts T
  cells_in setting = cells_at (map string_bytes setting.shown.now) setting.objects.now setting.parties

  abbrev pub walk_in : Setting T → List (RoomEvent T) → Rest T → Walk T
  walk_in setting past rest = rest_walk z numerals (map (λ name. name.now) setting.names.now) setting.objects.now setting.parties past rest

  -- the rows of what is left were added, as far as they are kept, and its fault is told
  abbrev pub HasAdded : Option ℕ → Setting T → List (RoomEvent T) → Rest T → List (Row T) → List (Row T) → Option FaultyLine → Type 0
  HasAdded most setting past rest = Adds (λ step. step.event) (cells_in setting) most past (walk_in setting past rest).steps (walk_in setting past rest).fault

  -- where it has no fault, all its events were played
  abbrev pub HasPlayed : Setting T → List (RoomEvent T) → Rest T → Seating T → Option FaultyLine → Type 0
  HasPlayed setting past rest room fault = unless_fault fault (StandsAt z setting.objects.now setting.parties (after (events_in (walk_in setting past rest).steps) past) room)

  abbrev pub rows_of_walk : List (List ℕ) → List (Object T) → ℕ → Walk T → RowsAndFault T
  rows_of_walk names objects parties walk =
      record { titles = titles_of names; rows = rows_with (λ step. step.event) (cells_at names objects parties) [] walk.steps []; fault = walk.fault }

  abbrev pub rows_from : Setting T → Rest T → RowsAndFault T
  rows_from setting rest = rows_of_walk (map string_bytes setting.shown.now) setting.objects.now setting.parties (walk_in setting [] rest)

  -- of the lines after those that name objects; what is no UTF-8 in a name is shown as U+FFFD
  abbrev pub rows_opened : Opened T → RowsAndFault T
  rows_opened found = rows_of_walk (map utf8_lossy found.names) found.objects found.parties (lines_walk z numerals found.names found.objects found.parties (found.line + 1) found.lines [])

  abbrev pub rows_or_fault : Result (Opened T) FaultyLine → RowsAndFault T
  rows_or_fault (Ok found) = rows_opened found
  rows_or_fault (Err fault) = no_rows fault

  unfoldable pub rows_of : List (List ℕ) → RowsAndFault T
  rows_of lines = rows_or_fault (opened numerals lines)
