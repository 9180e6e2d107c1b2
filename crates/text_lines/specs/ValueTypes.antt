-- The integer type of a text's values: that of the atomic which its first line names.
use Rattle.std.specs.Prelude.{ℕ, ℤ, false, true, if◌then◌else◌, List, [], ◌∷◌, Option}
use Rattle.text_lines.specs.Names.{bytes_eq, Arithmetic, u64_arithmetic, u128_arithmetic, i64_arithmetic, i128_arithmetic, Object}
use Rattle.text_lines.specs.declared.value_type.ValueType.{ValueType}
use Rattle.text_lines.specs.Lexer.{lines_of, words_of}
use Rattle.text_lines.specs.Numerals.{Numerals, ReadsValues, ReadsItsOwn, u64_numerals, u128_numerals, i64_numerals, i128_numerals}
use Rattle.text_lines.specs.Objects.{object_named}
use Rattle.text_lines.specs.NumeralLaws.{unsigned_reads, unsigned_reads_back, signed_reads, signed_reads_back}

-- the type of the atomics of this name; every other object has u64
abbrev pub type_named : List ℕ → ValueType
type_named name =
    if bytes_eq name u128_numerals.atomic
    then ValueType.U128
    else (if bytes_eq name i64_numerals.atomic
    then ValueType.I64
    else (if bytes_eq name i128_numerals.atomic
    then ValueType.I128
    else ValueType.U64))

abbrev pub type_of_words : List (List ℕ) → ValueType
type_of_words [] = ValueType.U64
type_of_words (name ∷ words) = type_named name

abbrev pub type_of_lines : List (List ℕ) → ValueType
type_of_lines [] = ValueType.U64
type_of_lines (line ∷ lines) = type_of_words (words_of line)

-- what the values of a type are, and how a text writes them
pub record Meaning : Type 1 where
  pub Value : Type 0
  pub arithmetic : Arithmetic Value
  pub numerals : Numerals Value
  pub reads : ReadsValues arithmetic numerals
  pub reads_back : ReadsItsOwn arithmetic numerals

abbrev pub meaning_of : ValueType → Meaning
meaning_of ValueType.U64 = record { Value = ℕ; arithmetic = u64_arithmetic; numerals = u64_numerals; reads = unsigned_reads u64_numerals.atomic false; reads_back = unsigned_reads_back u64_numerals.atomic false }
meaning_of ValueType.U128 = record { Value = ℕ; arithmetic = u128_arithmetic; numerals = u128_numerals; reads = unsigned_reads u128_numerals.atomic true; reads_back = unsigned_reads_back u128_numerals.atomic true }
meaning_of ValueType.I64 = record { Value = ℤ; arithmetic = i64_arithmetic; numerals = i64_numerals; reads = signed_reads i64_numerals.atomic false; reads_back = signed_reads_back i64_numerals.atomic false }
meaning_of ValueType.I128 = record { Value = ℤ; arithmetic = i128_arithmetic; numerals = i128_numerals; reads = signed_reads i128_numerals.atomic true; reads_back = signed_reads_back i128_numerals.atomic true }

-- the object of this name, of whichever type its values are
abbrev pub object_of_name : List ℕ → Option (Object Unit)
object_of_name name = object_named (meaning_of (type_named name)).numerals name

-- what the values of a text are
abbrev pub values_in : List ℕ → Meaning
values_in text = meaning_of (type_of_lines (lines_of text))
