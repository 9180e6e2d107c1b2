-- What a picture keeps of a text: the first rows of its trace.
use Rattle.std.specs.Prelude.{◌≡◌, ℕ, ◌-◌, ◌+◌, List, [], ◌∷◌, ◌++◌, map, take, Option, Result, Ok, string_bytes}
use Rattle.std.specs.Str.Lossy.{utf8_lossy}
use Rattle.model_events.specs.Exports.{Arithmetic, after}
use Rattle.model_events.specs.declared.{event.Event.Event, event.Object.Object, event.Word.Word, hold.HoldKind.HoldKind, words.Words.Words}
use Rattle.sync_steps.specs.Runs.{word_in}
use Rattle.text_lines.specs.declared.fault.FaultyLine.{FaultyLine}
use Rattle.text_lines.specs.Numerals.{Numerals}
use Rattle.sync_play.specs.Text.{typed_output}
use Rattle.text_room.specs.Walk as room
use Rattle.text_room.specs.Walk.{Opened, Walk, lines_walk}
use Rattle.text_room.specs.Output.{events_in, last_lines, output_in}
use Rattle.text_trace.specs.Each.{for_each}
use Rattle.text_trace.specs.Rows.{Entry, number_after}
use Rattle.text_trace.specs.Several.{rows_opened}
use Rattle.text_trace.specs.Table.{text_at}
use Rattle.text_trace.specs.Trace.{RowsAndFault}
use Rattle.text_lines.specs.declared.header.Header.{Header}
use Rattle.sync_play.specs.Walk.{opened}
use Rattle.draw_story.specs.declared.story.StoryObject.{StoryObject}
use Rattle.draw_story.specs.declared.story.StoryStep.{StoryStep}
use Rattle.draw_story.specs.declared.story.Story.{Story}
use Rattle.draw_story.specs.Title.{title_words}

-- what is drawn of a row: its words; what its step was, of which object, and how often; and what its party holds of that then
pub record Shown (T : Type 0) : Type 0 where
  pub title : List ℕ
  pub object : ℕ
  pub event : Event T
  pub count : ℕ
  pub hold : Option HoldKind

abbrev pub shown_of : {T : Type 0} → StoryStep T → Shown T
shown_of step = record { title = string_bytes step.title; object = step.object; event = step.event; count = step.count; hold = step.hold }

abbrev pub shown_at : {T : Type 0} → List (List ℕ) → Entry T → Shown T
shown_at titles row = record { title = title_words titles row; object = row.cells.object; event = row.cells.step.event; count = number_after (row.last - row.first); hold = row.cells.hold }

-- what is drawn of an object: its name, what it is, and what its words hold before the first step
pub record ShownObject (T : Type 0) : Type 0 where
  pub name : List ℕ
  pub object : Object T
  pub opening : Words

abbrev pub object_shown : {T : Type 0} → StoryObject T → ShownObject T
object_shown shown = record { name = string_bytes shown.name; object = shown.object; opening = shown.opening }

-- the words that hold this
abbrev pub words_by : (Word → ℕ) → Words
words_by memory = record { state = memory Word.State; counter = memory Word.Counter; waiters = memory Word.Waiters; value = memory Word.Value; low = memory Word.Low; high = memory Word.High }

abbrev pub object_named : {T : Type 0} → Arithmetic T → List ℕ → Object T → ShownObject T
object_named z name o = record { name = name; object = o; opening = words_by (word_in z o []) }

-- the rows that have room in a picture
abbrev pub kept : {T : Type 0} → List (Entry T) → List (Entry T)
kept rows = take 2000 rows

-- the steps are these rows of a trace, as far as they have room
abbrev pub HasTold : {T : Type 0} → RowsAndFault T → Story T → Type 0
HasTold told story = map shown_of story.steps.items ≡ map (shown_at told.titles) (kept told.rows)

-- the number of the last step of these rows; 0 where there is none
abbrev pub number_at_end : {T : Type 0} → List (Entry T) → ℕ
number_at_end [] = 0
number_at_end (row ∷ []) = row.last
number_at_end (row ∷ next ∷ rows) = number_at_end (next ∷ rows)

-- how many steps come after those of the rows that are kept
abbrev pub left_out : {T : Type 0} → List (Entry T) → ℕ
left_out rows = number_at_end rows - number_at_end (kept rows)

-- it is of these objects, which so many parties share
abbrev pub IsOf : {T : Type 0} → List (ShownObject T) → ℕ → Story T → Type 0
IsOf objects parties story = (map object_shown story.objects.items ≡ objects) × (story.parties ≡ parties)

-- the object, without a name, and the parties are those that the first line of the text names
abbrev pub IsOpenedBy : {T : Type 0} → Arithmetic T → Numerals T → List (List ℕ) → Story T → Type 0
IsOpenedBy {T} z numerals lines story = (header : Header T) × (others : List (List ℕ)) × (opened numerals lines ≡ Ok (header, others)) × IsOf (object_named z [] header.object ∷ []) header.parties story

-- the text has an output, and so no fault
abbrev pub HasOutput : Result (List ℕ) FaultyLine → Type 0
HasOutput output = (bytes : List ℕ) × (output ≡ Ok bytes)

-- the text has an output, and this is the last line of it
abbrev pub EndsOutput : {T : Type 0} → Arithmetic T → Numerals T → List (List ℕ) → Story T → Type 0
EndsOutput z numerals lines story = (front : List ℕ) × (typed_output z numerals lines ≡ Ok (front ++ string_bytes story.last))

-- Several objects.

-- their names, with what is no UTF-8 in them as U+FFFD
abbrev pub shown_names : {T : Type 0} → Opened T → List (List ℕ)
shown_names found = map utf8_lossy found.names

-- each by its name
abbrev pub object_at : {T : Type 0} → Arithmetic T → List (List ℕ) → ℕ → Object T → List (ShownObject T)
object_at z names k o = object_named z (text_at names k) o ∷ []

-- the objects and the parties are those that the first lines of the text name
abbrev pub IsOfOpened : {T : Type 0} → Arithmetic T → Opened T → Story T → Type 0
IsOfOpened z found = IsOf (for_each (object_at z (shown_names found)) 0 found.objects) found.parties

module _ {T : Type 0} (z : Arithmetic T) (numerals : Numerals T) where
  -- the walk of the lines after those that name objects
  abbrev pub walk_of : Opened T → Walk T
  walk_of found = lines_walk z numerals found.names found.objects found.parties (found.line + 1) found.lines []

  abbrev pub output_of : Opened T → Result (List ℕ) FaultyLine
  output_of found = output_in z numerals found.names found.objects [] (walk_of found)

  -- there is a last line for each object, behind its name
  abbrev pub EndsEach : Opened T → Story T → Type 0
  EndsEach found story = string_bytes story.last ≡ last_lines z numerals 0 (shown_names found) found.objects (after (events_in (walk_of found).steps) [])

  -- the story of a text whose first lines name these objects
  pub record IsStoryOf (found : Opened T) (story : Story T) : Type 0 where
    pub told : HasTold (rows_opened z numerals found) story
    pub opened : IsOfOpened z found story
    pub left_out : story.left_out ≡ left_out (rows_opened z numerals found).rows
    pub last : EndsEach found story
    pub played : HasOutput (output_of found)

-- the first lines of the text name objects, and this holds of what they name
abbrev pub OfOpened : {T : Type 0} → Numerals T → List (List ℕ) → (Opened T → Type 0) → Type 0
OfOpened {T} numerals lines P = (found : Opened T) × (room.opened numerals lines ≡ Ok found) × P found
