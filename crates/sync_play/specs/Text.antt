-- What a text prints, or the fault of its first faulty line.
use Rattle.std.specs.Prelude.{ℕ, ◌+◌, List, [], ◌∷◌, ◌++◌, Option, Some, None, Result, Ok, Err}
use Rattle.sync_play.specs.Names.{Event, Object, Arithmetic, after, Command, FaultyLine, LineFault, command_of, ◌>>=◌, at_line, header_of, lines_of, words_of, Numerals, values_in}
use Rattle.sync_play.specs.Player.{command_events}
use Rattle.sync_play.specs.Print.{printed, last_line}

module _ {T : Type 0} (z : Arithmetic T) (numerals : Numerals T) where
  -- a line without words asks nothing
  abbrev pub events_asked : Object T → ℕ → List (Event T) → Option (Command T) → Result (List (Event T)) LineFault
  events_asked o parties past None = Ok []
  events_asked o parties past (Some command) = command_events z o parties past command

  -- the events of a line after the events so far
  unfoldable pub line_events : Object T → ℕ → List (Event T) → List (List ℕ) → Result (List (Event T)) LineFault
  line_events o parties past words = command_of numerals o words >>= λ asked. events_asked o parties past asked

  -- what the lines from line `number` on print after the events so far, newest first
  unfoldable pub output_after : Object T → ℕ → ℕ → List (List ℕ) → List (Event T) → Result (List ℕ) FaultyLine
  output_after o parties number [] past = Ok (last_line z numerals o past)
  output_after o parties number (line ∷ lines) past = do
    events ← at_line number (line_events o parties past (words_of line))
    rest ← output_after o parties (number + 1) lines (after events past)
    Ok (printed numerals events ++ rest)

  -- the lines of the run of all the text's inputs, and then the last line
  unfoldable pub typed_output : List (List ℕ) → Result (List ℕ) FaultyLine
  typed_output [] = Err (record { line = 1; fault = LineFault.NoObject })
  typed_output (line ∷ lines) = do
    header ← at_line 1 (header_of numerals (words_of line))
    output_after header.object header.parties 2 lines []

-- by the type of the text's values
abbrev pub output_of : List ℕ → Result (List ℕ) FaultyLine
output_of text = typed_output (values_in text).arithmetic (values_in text).numerals (lines_of text)
