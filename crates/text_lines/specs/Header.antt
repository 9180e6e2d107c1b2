-- What the first line names: the object and its parties.
use Rattle.std.specs.Prelude.{ℕ, List, [], ◌∷◌, Option, Some, None, Result, Ok, Err}
use Rattle.text_lines.specs.Names.{Object}
use Rattle.text_lines.specs.declared.fault.LineFault.{LineFault}
use Rattle.text_lines.specs.declared.header.Header.{Header}
use Rattle.text_lines.specs.Fault.{◌>>=◌}
use Rattle.text_lines.specs.Lexer.{number_within}
use Rattle.text_lines.specs.Numerals.{Numerals}
use Rattle.text_lines.specs.Objects.{object_named, opened_with}

abbrev pub opened_as : {T : Type 0} → Numerals T → List (List ℕ) → Option (Object Unit) → Result (Header T) LineFault
opened_as numerals words None = Err LineFault.NoObject
opened_as numerals [] (Some object) = Err LineFault.BadLine
opened_as numerals (parties ∷ words) (Some object) = opened_with numerals words object >>= λ opened. number_within 1 64 parties >>= λ n. Ok (record { object = opened; parties = n })

unfoldable pub header_of : {T : Type 0} → Numerals T → List (List ℕ) → Result (Header T) LineFault
header_of numerals [] = Err LineFault.NoObject
header_of numerals (name ∷ words) = opened_as numerals words (object_named numerals name)
