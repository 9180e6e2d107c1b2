-- What a word writes is a value of the type, and what is printed of a value writes it.
use Rattle.std.proofs.Common.{◌≡◌, ap, ◌∙◌, ℕ, suc, ◌+◌, ◌*◌, ◌/◌, ◌%◌, ◌^◌, ◌-◌, ◌<◌, ◌≤◌, Bool, true, false, cond, List, [], ◌∷◌, ◌++◌, Option, Some, None, Ok, subst, arith}
use Rattle.std.proofs.lemmas.Bool.{eqb-true, eqb-false}
use Rattle.std.proofs.lemmas.Bool.Decides.{nat_tests}
use Rattle.std.proofs.lemmas.Fmt.{decimal_by_steps_wide}
use Rattle.std.specs.Prelude.{ℤ, pos, negsuc}
use Rattle.text_lines.specs.Names.{is_ascii_digit, decimal, signed_decimal, IsValue, span, high_bits, joined, arithmetic_of, unsigned, signed, width_of, fits_signed}
use Rattle.std.specs.Int.RustNames.{FitsSigned}
use Rattle.std.specs.Int.Signed.{mag}
use Rattle.model_events.specs.IntegerLaws.{unsigned_value, signed_value}
use Rattle.text_lines.specs.Lexer.{in_range, number_from, number_of, number_within, with_sign, signed_of, fitting_signed, or_bad_number}
use Rattle.text_lines.specs.Numerals.{ReadsValues, ReadsItsOwn, unsigned_numerals, signed_numerals}

small : (low high n : ℕ) (read : Option ℕ) → in_range low high read ≡ Ok n → n ≤ high
small low high n read h1 = grind (arith, nat_tests, eqb-true, eqb-false)

-- a number that was read is at most the greatest of its range
pub number_at_most : (low high n : ℕ) (word : List ℕ) → number_within low high word ≡ Ok n → n ≤ high
number_at_most low high n word e = small low high n (number_of word) e

below_span : (wide : Bool) (n : ℕ) → n ≤ span wide - 1 → n < span wide
below_span wide n h1 = grind (arith, nat_tests, eqb-true, eqb-false)

pub unsigned_reads : (name : List ℕ) (wide : Bool) → ReadsValues (arithmetic_of (unsigned wide)) (unsigned_numerals name wide)
unsigned_reads name wide word n e = unsigned_value wide n (below_span wide n (number_at_most 0 (span wide - 1) n word e))

-- With a sign.

fits : (wide : Bool) (v : ℤ) → fits_signed wide v ≡ true → FitsSigned (width_of wide) v
fits wide v h1 = grind (arith, nat_tests, eqb-true, eqb-false)

fitting_fits : (wide : Bool) (read : Option ℤ) (v : ℤ) → or_bad_number (fitting_signed wide read) ≡ Ok v → FitsSigned (width_of wide) v
fitting_fits wide read v h1 = grind (arith, nat_tests, eqb-true, eqb-false)

pub signed_reads : (name : List ℕ) (wide : Bool) → ReadsValues (arithmetic_of (signed wide)) (signed_numerals name wide)
signed_reads name wide word v e = signed_value wide v (fitting_fits wide (signed_of word) v e)

-- What is printed is read.

digit_alone : (n : ℕ) → n < 10 → number_from 0 ((48 + n) ∷ []) ≡ Some n
digit_alone n digit = grind (arith, nat_tests)

digit_read : (k n d : ℕ) → d < 10 → k ≡ n → number_from k ((48 + d) ∷ []) ≡ Some (n * 10 + d)
digit_read k n d digit same = grind (arith, nat_tests)

number_more : (k n d : ℕ) (ds : List ℕ) → d < 10 → number_from k ds ≡ Some n → number_from k (ds ++ ((48 + d) ∷ [])) ≡ Some (n * 10 + d)
number_more k n d [] digit e = digit_read k n d digit cc
number_more k n d (byte ∷ ds) digit e = by_digit (is_ascii_digit byte) (number_more (k * 10 + (byte - 48)) n d ds digit) e
  where
    by_digit : (b : Bool) → (number_from (k * 10 + (byte - 48)) ds ≡ Some n → number_from (k * 10 + (byte - 48)) (ds ++ ((48 + d) ∷ [])) ≡ Some (n * 10 + d)) →
        cond b (number_from (k * 10 + (byte - 48)) ds) None ≡ Some n → cond b (number_from (k * 10 + (byte - 48)) (ds ++ ((48 + d) ∷ []))) None ≡ Some (n * 10 + d)
    by_digit true rest e = rest e
    by_digit false rest e = absurd cc

abbrev begins_with_digit : List ℕ → Bool
begins_with_digit [] = false
begins_with_digit (byte ∷ bytes) = is_ascii_digit byte

digit_begins : (n : ℕ) → n < 10 → is_ascii_digit (48 + n) ≡ true
digit_begins n digit = grind (arith, nat_tests)

begins_still : (ds more : List ℕ) → begins_with_digit ds ≡ true → begins_with_digit (ds ++ more) ≡ true
begins_still ds more h1 = grind (arith, nat_tests, eqb-true, eqb-false)

-- the bytes are digits, and are read as the number
abbrev IsReadAs : ℕ → List ℕ → Type 0
IsReadAs n ds = (number_from 0 ds ≡ Some n) × (begins_with_digit ds ≡ true)

decimal_reads : (n : ℕ) → n < 10 ^ 64 → IsReadAs n (decimal n)
decimal_reads n within = decimal_by_steps_wide IsReadAs (λ m below. (digit_alone m below, digit_begins m below)) more n within
  where
    more : (m : ℕ) (ds : List ℕ) → 10 ≤ m → IsReadAs (m / 10) ds → IsReadAs m (ds ++ ((48 + m % 10) ∷ []))
    more m ds many read =
        let whole : m / 10 * 10 + m % 10 ≡ m = omega arith in
        (subst (λ k. number_from 0 (ds ++ ((48 + m % 10) ∷ [])) ≡ Some k) whole (number_more 0 (m / 10) (m % 10) ds (omega arith) read.0), begins_still ds _ read.1)

number_read : (ds : List ℕ) (n : ℕ) → IsReadAs n ds → number_of ds ≡ Some n
number_read ds n h1 = grind (arith, nat_tests, eqb-true, eqb-false)

in_its_range : (low high n : ℕ) → low ≤ n → n ≤ high → in_range low high (Some n) ≡ Ok n
in_its_range low high n h1 h2 = grind (arith, nat_tests, eqb-true, eqb-false)

-- what is printed of a number is read as that number, where it is within the range
pub number_reads_back : (low high n : ℕ) → low ≤ n → n ≤ high → high < 10 ^ 64 → number_within low high (decimal n) ≡ Ok n
number_reads_back low high n above below short = ap (in_range low high) (number_read (decimal n) n (decimal_reads n (omega (arith, below, short)))) ∙ in_its_range low high n above below

-- the bits of a value are within its type
value_below : (wide : Bool) (n : ℕ) → joined wide (n % 2 ^ 64) (high_bits wide n) ≡ n → n < span wide
value_below wide n h1 = grind (arith, nat_tests, eqb-true, eqb-false)

in_span : (wide : Bool) (n : ℕ) → n < span wide → in_range 0 (span wide - 1) (Some n) ≡ Ok n
in_span wide n h1 = grind (arith, nat_tests, eqb-true, eqb-false)

short : (wide : Bool) (n : ℕ) → n < span wide → n < 10 ^ 64
short wide n h1 = grind (arith, nat_tests, eqb-true, eqb-false)

pub unsigned_reads_back : (name : List ℕ) (wide : Bool) → ReadsItsOwn (arithmetic_of (unsigned wide)) (unsigned_numerals name wide)
unsigned_reads_back name wide n is =
    let below = value_below wide n is in
    ap (in_range 0 (span wide - 1)) (number_read (decimal n) n (decimal_reads n (short wide n below))) ∙ in_span wide n below

signed_fits : (wide : Bool) (v : ℤ) → IsValue (arithmetic_of (signed wide)) v → FitsSigned (width_of wide) v
signed_fits wide v h1 = grind (arith, nat_tests, eqb-true, eqb-false)

signed_read : (ds : List ℕ) (n : ℕ) → IsReadAs n ds → signed_of ds ≡ Some (pos n)
signed_read ds n h1 = grind (arith, nat_tests, eqb-true, eqb-false)

fitting_read : (wide : Bool) (v : ℤ) → FitsSigned (width_of wide) v → or_bad_number (fitting_signed wide (Some v)) ≡ Ok v
fitting_read wide v h1 = grind (arith, nat_tests, eqb-true, eqb-false)

short_signed : (wide : Bool) (v : ℤ) → FitsSigned (width_of wide) v → mag v + 1 < 10 ^ 64
short_signed wide v h1 = grind (arith, nat_tests, eqb-true, eqb-false)

printed_read : (v : ℤ) → mag v + 1 < 10 ^ 64 → signed_of (signed_decimal v) ≡ Some v
printed_read (pos n) within = signed_read (decimal n) n (decimal_reads n (omega (arith, within)))
printed_read (negsuc n) within = ap (with_sign true) (number_read (decimal (suc n)) (suc n) (decimal_reads (suc n) (omega (arith, within))))

pub signed_reads_back : (name : List ℕ) (wide : Bool) → ReadsItsOwn (arithmetic_of (signed wide)) (signed_numerals name wide)
signed_reads_back name wide = grind (arith, nat_tests, eqb-true, eqb-false, fits, signed_fits, printed_read, short_signed, fitting_read)
