-- A story of a text of several objects has the first rows of its trace, and the last line of each object.
use Rattle.draw_story.proofs.Names.{◌≡◌, ℕ, List, [], ◌++◌, map, Option, Some, None, Ok, refl, sym, ap, subst, ◌∙◌, lines_of, string_bytes, Row, entries, shown_of, shown_at, kept, left_out}
use Rattle.std.specs.Str.Lossy.{utf8_lossy}
use Rattle.model_events.specs.Exports.{Arithmetic, after}
use Rattle.model_room.specs.Room.{Seating, StandsAt}
use Rattle.model_room.specs.Runs.{all_of}
use Rattle.model_room.specs.declared.event.RoomEvent.{RoomEvent}
use Rattle.text_lines.specs.Fault.{◌>>=◌}
use Rattle.text_lines.specs.Numerals.{Numerals}
use Rattle.text_lines.specs.declared.fault.FaultyLine.{FaultyLine}
use Rattle.sync_play.specs.Print.{printed}
use Rattle.sync_play.specs.WalkOutput.{output_unless}
use Rattle.text_room.specs.Output.{events_in, last_lines, room_output}
use Rattle.text_room.specs.Walk.{Opened, Walk, nothing, opened}
unfoldable use Rattle.text_room.specs.Walk.{go_walk}
use Rattle.text_room.specs.declared.walk.Rest.{Rest}
use Rattle.text_trace.specs.Each.{for_each}
use Rattle.text_trace.specs.Several.{titles_of, cells_in, walk_in, HasAdded, HasPlayed, rows_from, rows_opened}
use Rattle.text_trace.specs.Trace.{RowsAndFault}
use Rattle.text_trace.specs.declared.several.Setting.{Setting}
use Rattle.text_trace.proofs.SeveralLaws.{rows_left}
use Rattle.draw_story.specs.Story.{HasTold, object_shown, object_at, walk_of, output_of, IsStoryOf}
use Rattle.draw_story.specs.declared.story.Story.{Story}
use Rattle.draw_story.proofs.StoryLaws.{leaves, tells}

-- The names and objects that are played are those that the first lines name, and what is left are the lines after these.
module _ {T : Type 0} (z : Arithmetic T) (numerals : Numerals T) (setting : Setting T) (found : Opened T) (rest : Rest T) (names : map (λ name. name.now) setting.names.now ≡ found.names) (shown : map string_bytes setting.shown.now ≡ map utf8_lossy found.names)
    (objects : setting.objects.now ≡ found.objects) (parties : setting.parties ≡ found.parties) (left : rest.left ≡ nothing) (line : found.line ≡ rest.line) (lines : found.lines ≡ lines_of rest.lines.now) where
  walk_same : walk_in z numerals setting [] rest ≡ walk_of z numerals found
  unfolding go_walk
  walk_same = rw (names, objects, parties, left, line, lines) refl

  rows_same : rows_from z numerals setting rest ≡ rows_opened z numerals found
  rows_same = rows_left z numerals setting found rest names shown objects parties left line lines

  abbrev bytes : List ℕ
  bytes = printed numerals (all_of (events_in (walk_of z numerals found).steps)) ++ last_lines z numerals 0 found.names found.objects (after (events_in (walk_of z numerals found).steps) [])

  -- the output is that of the walk, unless it has a fault
  pub output_is : (none rows : List (Row T)) (told fault : Option FaultyLine) → HasAdded z numerals (Some 2000) setting [] rest none rows told → told ≡ fault → output_of z numerals found ≡ output_unless fault bytes
  output_is none rows told fault added is = ap (λ (f : Option FaultyLine). output_unless f bytes) (ap (λ (w : Walk T). w.fault) (sym walk_same) ∙ sym added.1 ∙ is)

  pub is_story : (none rows all : List (Row T)) (told : Option FaultyLine) (room : Seating T) (titles : List (List ℕ)) (story : Story T) → told ≡ None → none ≡ [] → HasAdded z numerals (Some 2000) setting [] rest none rows told → HasPlayed z numerals setting [] rest room told → all ≡ rows →
      titles ≡ titles_of (map string_bytes setting.shown.now) → map shown_of story.steps.items ≡ map (shown_at titles) (kept (entries all)) → story.left_out ≡ left_out (entries all) → story.parties ≡ setting.parties →
      map object_shown story.objects.items ≡ for_each (object_at z (map string_bytes setting.shown.now)) 0 setting.objects.now →
      ((past : List (RoomEvent T)) → StandsAt z setting.objects.now setting.parties past room → string_bytes story.last ≡ last_lines z numerals 0 (map string_bytes setting.shown.now) setting.objects.now past) → IsStoryOf z numerals found story
  is_story none rows all told room titles story faultless empty added plays same titled drawn skipped shared made ends =
      let walk = walk_in z numerals setting [] rest in
      let cells = cells_in z numerals setting in
      let stands = subst (λ (f : Option FaultyLine). HasPlayed z numerals setting [] rest room f) faultless plays in
      record {
        told = subst (λ (rows : RowsAndFault T). HasTold rows story) rows_same (tells (λ step. step.event) cells walk.steps walk.fault none rows all told story.steps.items titles (titles_of (map string_bytes setting.shown.now)) empty added same titled drawn);
        opened = (made ∙ rw (shown, objects) refl, shared ∙ parties);
        left_out = skipped ∙ leaves (λ step. step.event) cells walk.steps walk.fault none rows all told empty added same ∙ ap (λ (rows : RowsAndFault T). left_out rows.rows) rows_same;
        last = ends (after (events_in walk.steps) []) stands ∙ ap (λ (w : Walk T). last_lines z numerals 0 (map string_bytes setting.shown.now) setting.objects.now (after (events_in w.steps) [])) walk_same ∙ rw (shown, objects) refl;
        played = (bytes, output_is none rows told None added faultless);
      }

-- the output of a text is that of what its first lines name
pub output_opened : {T : Type 0} (z : Arithmetic T) (numerals : Numerals T) (lines : List (List ℕ)) (found : Opened T) → opened numerals lines ≡ Ok found → output_of z numerals found ≡ room_output z numerals lines
output_opened z numerals lines found is = sym (ap (λ r. r >>= λ found. output_of z numerals found) is)
