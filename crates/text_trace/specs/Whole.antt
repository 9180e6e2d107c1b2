-- The trace of a text, of a lock of one's own, of one object or of several: what is written of it, and its first fault.
use Rattle.std.specs.Prelude.{ℕ, List, map, if◌then◌else◌}
use Rattle.text_trace.specs.Names.{lines_of}
use Rattle.text_lines.specs.ValueTypes.{values_in}
use Rattle.text_room.specs.Output.{begins_several}
use Rattle.text_own.specs.Answer.{begins_own, unmark}
use Rattle.text_trace.specs.Own as own
use Rattle.text_trace.specs.Several as several
use Rattle.text_trace.specs.Trace.{Written, written, typed_trace}

-- by the type of its values
abbrev pub trace_of : List ℕ → Written
trace_of text =
    if begins_own text
    then written (own.rows_of (lines_of (map unmark text)))
    else if begins_several (lines_of text)
    then written (several.rows_of (values_in text).arithmetic (values_in text).numerals (lines_of text))
    else typed_trace (values_in text).arithmetic (values_in text).numerals (lines_of text)
