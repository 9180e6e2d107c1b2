-- How a text writes the values of an integer type.
use Rattle.std.specs.Prelude.{◌≡◌, ℕ, ℤ, ◌-◌, Bool, true, false, List, Result, Ok, codes}
use Rattle.text_lines.specs.Names.{decimal, signed_decimal, Arithmetic, IsValue, span}
use Rattle.text_lines.specs.declared.fault.LineFault.{LineFault}
use Rattle.text_lines.specs.Lexer.{number_within, signed_within}

pub record Numerals (T : Type 0) : Type 0 where
  -- the name of an atomic that holds such values
  pub atomic : List ℕ
  -- the value that a word writes, or why it writes none
  pub value_of : List ℕ → Result T LineFault
  -- how a value is printed
  pub decimal_of : T → List ℕ

-- whatever a word writes is a value of the type
abbrev pub ReadsValues : {T : Type 0} → Arithmetic T → Numerals T → Type 0
ReadsValues {T} z n = (word : List ℕ) (v : T) → n.value_of word ≡ Ok v → IsValue z v

-- and what is printed of a value is read as that value
abbrev pub ReadsItsOwn : {T : Type 0} → Arithmetic T → Numerals T → Type 0
ReadsItsOwn {T} z n = (v : T) → IsValue z v → n.value_of (n.decimal_of v) ≡ Ok v

-- without a sign: decimal digits
abbrev pub unsigned_numerals : List ℕ → Bool → Numerals ℕ
unsigned_numerals name wide = record { atomic = name; value_of = number_within 0 (span wide - 1); decimal_of = decimal }

-- with a sign: a minus before the digits of a negative number
abbrev pub signed_numerals : List ℕ → Bool → Numerals ℤ
signed_numerals name wide = record { atomic = name; value_of = signed_within wide; decimal_of = signed_decimal }

abbrev pub u64_numerals : Numerals ℕ
u64_numerals = unsigned_numerals (codes "atomic_u64") false

abbrev pub u128_numerals : Numerals ℕ
u128_numerals = unsigned_numerals (codes "atomic_u128") true

abbrev pub i64_numerals : Numerals ℤ
i64_numerals = signed_numerals (codes "atomic_i64") false

abbrev pub i128_numerals : Numerals ℤ
i128_numerals = signed_numerals (codes "atomic_i128") true
