-- What a picture is, as bytes.
use Rattle.std.specs.Prelude.{◌≡◌, ℕ, Bool, List, ◌++◌, map, codes, string_bytes, if◌then◌else◌}
use Rattle.draw_markup.specs.declared.name.Tag.{Tag}
use Rattle.draw_markup.specs.Tree.{IsElement}
use Rattle.model_events.specs.Arithmetic.{Arithmetic}
use Rattle.text_lines.specs.Lexer.{lines_of}
use Rattle.text_lines.specs.Numerals.{Numerals}
use Rattle.text_lines.specs.ValueTypes.{values_in}
use Rattle.text_room.specs.Output.{begins_several}
use Rattle.text_trace.specs.Several as several
use Rattle.text_trace.specs.Trace.{RowsAndFault, rows_of}
use Rattle.draw_story.specs.declared.story.StoryStep.{StoryStep}
use Rattle.draw_story.specs.Story.{kept}
use Rattle.draw_story.specs.Title.{title_words}
use Rattle.draw_text.specs.Parts.{HasText}

-- an `svg` element with all that is in it, in which the groups have these titles, and then the end of the line
abbrev pub IsPicture : List (List ℕ) → List ℕ → Type 0
IsPicture titles bytes = (element : List ℕ) × (bytes ≡ element ++ codes "\n") × ∥ IsElement Tag.Svg titles element ∥₁

-- the titles of a story's steps
abbrev pub step_titles : {T : Type 0} → List (StoryStep T) → List (List ℕ)
step_titles steps = map (λ step. string_bytes step.title) steps

-- a picture with a group for each of these rows of a trace, in order, as far as they have room, whose title is that row in words
abbrev pub IsPictureOfRows : {T : Type 0} → RowsAndFault T → List ℕ → Type 0
IsPictureOfRows told bytes = IsPicture (map (title_words told.titles) (kept told.rows)) bytes

-- the rows of a text of several objects, or of one
abbrev pub rows_in : {T : Type 0} → Arithmetic T → Numerals T → Bool → List (List ℕ) → RowsAndFault T
rows_in z numerals is_several lines = if is_several then several.rows_of z numerals lines else rows_of z numerals lines

-- a picture of a text, by the type of its values
unfoldable pub IsPictureOf : List ℕ → List ℕ → Type 0
IsPictureOf text bytes = IsPictureOfRows (rows_in (values_in text).arithmetic (values_in text).numerals (begins_several (lines_of text)) (lines_of text)) bytes

-- a picture of a text, behind which lines may tell its moves
abbrev pub IsPictureOfPart : List ℕ → List ℕ → Type 0
IsPictureOfPart read picture = (text : List ℕ) × HasText read text × IsPictureOf text picture
