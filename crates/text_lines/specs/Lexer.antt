-- The lines of a text, the words of a line, and the numbers that words write.
use Rattle.std.specs.Prelude.{ℕ, ℤ, pos, neg_ℤ, ◌+◌, ◌*◌, ◌-◌, Bool, true, false, ◌&&◌, ◌||◌, ◌==◌, nat_le, nat_lt, if◌then◌else◌, List, [], ◌∷◌, Option, Some, None, Result, Ok, Err}
use Rattle.text_lines.specs.Names.{is_ascii_digit, bytes_eq, fits_signed}
use Rattle.text_lines.specs.declared.fault.LineFault.{LineFault}
use Rattle.text_lines.specs.Fault.{◌>>=◌}
use denote.Ref.{Bor}

-- Lines.

-- the byte in front of the first line
abbrev pub onto_line : ℕ → List (List ℕ) → List (List ℕ)
onto_line byte [] = (byte ∷ []) ∷ []
onto_line byte (line ∷ lines) = (byte ∷ line) ∷ lines

abbrev pub starts_with_feed : List ℕ → Bool
starts_with_feed [] = false
starts_with_feed (byte ∷ bytes) = byte == 10

-- A line ends with a line feed, with a carriage return and a line feed, or with the end of the text.
-- A carriage return before any other byte is a byte like others, and nothing stands after the last line feed.
abbrev pub lines_of : List ℕ → List (List ℕ)
lines_of [] = []
lines_of (byte ∷ bytes) =
    if byte == 10
    then [] ∷ lines_of bytes
    else (if (byte == 13 && starts_with_feed bytes) then lines_of bytes else onto_line byte (lines_of bytes))

-- the first line, and the lines of the text after it
abbrev pub lines_from : Option (Bor (List ℕ) × Bor (List ℕ)) → List (List ℕ)
lines_from None = []
lines_from (Some cut) = cut.0.now ∷ lines_of cut.1.now

-- the line without the carriage return at its end, where it has one
abbrev pub cut_line : List ℕ → List ℕ
cut_line [] = []
cut_line (byte ∷ []) = if byte == 13 then [] else byte ∷ []
cut_line (byte ∷ next ∷ bytes) = byte ∷ cut_line (next ∷ bytes)

-- Words.

-- a space or a tab
abbrev pub is_blank : ℕ → Bool
is_blank byte = byte == 32 || byte == 9

-- the byte in front of the first word
abbrev pub onto_word : ℕ → List (List ℕ) → List (List ℕ)
onto_word byte [] = (byte ∷ []) ∷ []
onto_word byte (word ∷ words) = (byte ∷ word) ∷ words

-- a byte that is no blank, before bytes with these words: it is a word of its own where a blank or the end follows
abbrev pub before_bytes : ℕ → List ℕ → List (List ℕ) → List (List ℕ)
before_bytes byte [] words = (byte ∷ []) ∷ words
before_bytes byte (next ∷ bytes) words = if is_blank next then (byte ∷ []) ∷ words else onto_word byte words

-- words are parted by blanks, which may also stand before the first and after the last
abbrev pub words_of : List ℕ → List (List ℕ)
words_of [] = []
words_of (byte ∷ bytes) = if is_blank byte then words_of bytes else before_bytes byte bytes (words_of bytes)

-- the first word, and the words of the line after it
abbrev pub words_from : Option (Bor (List ℕ) × Bor (List ℕ)) → List (List ℕ)
words_from None = []
words_from (Some cut) = cut.0.now ∷ words_of cut.1.now

-- Numbers.

-- the number that these decimal digits go on with after n
abbrev pub number_from : ℕ → List ℕ → Option ℕ
number_from n [] = Some n
number_from n (byte ∷ bytes) = if is_ascii_digit byte then number_from (n * 10 + (byte - 48)) bytes else None

-- one or more decimal digits, without a sign; leading zeros are allowed
abbrev pub number_of : List ℕ → Option ℕ
number_of [] = None
number_of (byte ∷ bytes) = number_from 0 (byte ∷ bytes)

abbrev pub in_range : ℕ → ℕ → Option ℕ → Result ℕ LineFault
in_range low high None = Err LineFault.BadNumber
in_range low high (Some n) = if (nat_le low n && nat_le n high) then Ok n else Err LineFault.BadNumber

-- the number of a word, in a range
abbrev pub number_within : ℕ → ℕ → List ℕ → Result ℕ LineFault
number_within low high word = in_range low high (number_of word)

-- a number below the bound
abbrev pub fitting : ℕ → Option ℕ → Option ℕ
fitting bound None = None
fitting bound (Some n) = if nat_lt n bound then Some n else None

-- Numbers with a sign.

abbrev pub with_sign : Bool → Option ℕ → Option ℤ
with_sign minus None = None
with_sign true (Some n) = Some (neg_ℤ (pos n))
with_sign false (Some n) = Some (pos n)

-- decimal digits, and a minus before them where the number is negative
abbrev pub signed_of : List ℕ → Option ℤ
signed_of [] = None
signed_of (byte ∷ bytes) = if byte == 45 then with_sign true (number_of bytes) else with_sign false (number_of (byte ∷ bytes))

-- a number that is one of the signed type
abbrev pub fitting_signed : Bool → Option ℤ → Option ℤ
fitting_signed wide None = None
fitting_signed wide (Some v) = if fits_signed wide v then Some v else None

abbrev pub or_bad_number : {A : Type 0} → Option A → Result A LineFault
or_bad_number None = Err LineFault.BadNumber
or_bad_number (Some x) = Ok x

-- the number of a word, where it is one of the signed type
abbrev pub signed_within : Bool → List ℕ → Result ℤ LineFault
signed_within wide word = or_bad_number (fitting_signed wide (signed_of word))

-- What a word names.

-- the first row of this name
abbrev pub find : {A : Type 0} → List ℕ → List (List ℕ × A) → Option A
find name [] = None
find name (row ∷ rows) = if bytes_eq name row.0 then Some row.1 else find name rows

-- What is left of a line.

-- no word
abbrev pub nothing : List (List ℕ) → Result (Unit {0}) LineFault
nothing [] = Ok tt
nothing (word ∷ words) = Err LineFault.BadLine

-- one word, which is read so
abbrev pub only : {A : Type 0} → (List ℕ → Result A LineFault) → List (List ℕ) → Result A LineFault
only read [] = Err LineFault.BadLine
only read (word ∷ []) = read word
only read (word ∷ other ∷ words) = Err LineFault.BadLine

-- one word, and it is a number in a range
abbrev pub only_number : ℕ → ℕ → List (List ℕ) → Result ℕ LineFault
only_number low high words = only (number_within low high) words

-- two words, which are read so
abbrev pub only_two : {A : Type 0} → (List ℕ → Result A LineFault) → List (List ℕ) → Result (A × A) LineFault
only_two read [] = Err LineFault.BadLine
only_two read (word ∷ []) = Err LineFault.BadLine
only_two read (word ∷ other ∷ []) = read word >>= λ first. read other >>= λ second. Ok (first, second)
only_two read (word ∷ other ∷ more ∷ words) = Err LineFault.BadLine
