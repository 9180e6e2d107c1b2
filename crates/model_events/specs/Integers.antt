-- The arithmetic of each integer type that an atomic may hold: said once, by the type's width and its sign.
use Rattle.std.specs.Prelude.{ℕ, ◌+◌, ◌-◌, ◌*◌, ◌/◌, ◌%◌, ◌^◌, Bool, true, false, not, nat_lt, nat_eq, ℤ, ◌+ℤ◌, ◌-ℤ◌}
use Rattle.std.specs.Int.{Width, w64, w128, cast_unsigned, cast_signed, bit_not}
use Rattle.std.specs.Int.Bits.{bit_and, bit_or, bit_xor}
use Rattle.std.specs.Int.Signed.{mag}
use Rattle.std.specs.declared.cmp.Ordering.{Ordering}
use Rattle.std.specs.Ordering.{nat_cmp, int_cmp, int_eq, ord_max, ord_min}
use Rattle.model_events.specs.Arithmetic.{Arithmetic}

-- How a type's values stand as bits, and what does not come of these alone.
pub record Coding (T : Type 0) : Type 0 where
  -- 128 bits, or 64
  pub wide : Bool
  -- the bits of a value, as a number, and the value that has them
  pub to_bits : T → ℕ
  pub of_bits : ℕ → T
  -- whether the sum and the difference are beyond the type
  pub add_wraps : T → T → Bool
  pub subtract_wraps : T → T → Bool
  -- how two values compare
  pub compare : T → T → Ordering
  pub same : T → T → Bool

abbrev pub width_of : Bool → Width
width_of true = w128
width_of false = w64

-- how many numbers the bits are
abbrev pub span : Bool → ℕ
span true = 2 ^ 128
span false = 2 ^ 64

-- the high 64 bits of a number; a type of 64 bits has none
abbrev pub high_bits : Bool → ℕ → ℕ
high_bits true n = n / 2 ^ 64 % 2 ^ 64
high_bits false n = 0

-- the number of two words; a type of 64 bits has but the low one
abbrev pub joined : Bool → ℕ → ℕ → ℕ
joined true low high = low + high * 2 ^ 64
joined false low high = low

abbrev pub arithmetic_of : {T : Type 0} → Coding T → Arithmetic T
arithmetic_of c =
    record {
      low = λ v. c.to_bits v % 2 ^ 64;
      high = λ v. high_bits c.wide (c.to_bits v);
      of_words = λ low high. c.of_bits (joined c.wide low high);
      add = λ x y. c.of_bits ((c.to_bits x + c.to_bits y) % span c.wide);
      add_wraps = c.add_wraps;
      subtract = λ x y. c.of_bits ((c.to_bits x + (span c.wide - c.to_bits y)) % span c.wide);
      subtract_wraps = c.subtract_wraps;
      and = λ x y. c.of_bits (bit_and (c.to_bits x) (c.to_bits y));
      or = λ x y. c.of_bits (bit_or (c.to_bits x) (c.to_bits y));
      xor = λ x y. c.of_bits (bit_xor (c.to_bits x) (c.to_bits y));
      inverse = λ x. c.of_bits (bit_not (width_of c.wide) (c.to_bits x));
      greater = λ x y. ord_max c.compare x y;
      lesser = λ x y. ord_min c.compare x y;
      same = c.same;
    }

-- without a sign a value is its bits
abbrev pub unsigned : Bool → Coding ℕ
unsigned wide =
    record {
      wide = wide;
      to_bits = λ v. v;
      of_bits = λ n. n;
      add_wraps = λ x y. not (nat_lt (x + y) (span wide));
      subtract_wraps = λ x y. nat_lt x y;
      compare = nat_cmp;
      same = nat_eq;
    }

-- whether a number is one of the signed type
abbrev pub fits_signed : Bool → ℤ → Bool
fits_signed true v = nat_lt (mag v) (2 ^ 127)
fits_signed false v = nat_lt (mag v) (2 ^ 63)

-- with a sign its bits are two's complement
abbrev pub signed : Bool → Coding ℤ
signed wide =
    record {
      wide = wide;
      to_bits = cast_unsigned (width_of wide);
      of_bits = cast_signed (width_of wide);
      add_wraps = λ x y. not (fits_signed wide (x +ℤ y));
      subtract_wraps = λ x y. not (fits_signed wide (x -ℤ y));
      compare = int_cmp;
      same = int_eq;
    }

abbrev pub u64_arithmetic : Arithmetic ℕ
u64_arithmetic = arithmetic_of (unsigned false)

abbrev pub u128_arithmetic : Arithmetic ℕ
u128_arithmetic = arithmetic_of (unsigned true)

abbrev pub i64_arithmetic : Arithmetic ℤ
i64_arithmetic = arithmetic_of (signed false)

abbrev pub i128_arithmetic : Arithmetic ℤ
i128_arithmetic = arithmetic_of (signed true)
