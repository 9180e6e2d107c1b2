-- The operators of every integer type lead from its values to its values. Said once, for any coding that has back the bits of what it made of them.
use Rattle.std.proofs.Common.{◌≡◌, ℕ, ◌%◌, ◌^◌, ◌<◌, Bool, true, false, cond, refl, sym, ◌∙◌, ap, subst, arith}
use Rattle.std.specs.Prelude.{ℤ, pos, negsuc}
use Rattle.std.specs.Int.{w64, w128, cast_unsigned, cast_signed, bit_not}
use Rattle.std.specs.Int.Bits.{bit_and, bit_or, bit_xor, and_lt, or_lt, xor_lt}
use Rattle.std.specs.Ordering.{is_lt}
use Rattle.std.specs.Int.RustNames.{FitsSigned}
use Rattle.std.proofs.lemmas.Int.{of_z-to_z, to_z-of_z}
use Rattle.model_events.specs.Arithmetic.{IsValue, IsClosed}
use Rattle.model_events.specs.Integers.{Coding, arithmetic_of, width_of, span, high_bits, joined, unsigned, signed}

-- the bits of the value that was made of bits are these
abbrev GivesBack : {T : Type 0} → Coding T → Type 0
GivesBack c = (n : ℕ) → n < span c.wide → c.to_bits (c.of_bits n) ≡ n

-- The two words of a number.

words_join : (wide : Bool) (n : ℕ) → n < span wide → joined wide (n % 2 ^ 64) (high_bits wide n) ≡ n
words_join true n bound = omega (arith, bound)
words_join false n bound = omega (arith, bound)

joined_below : (wide : Bool) (n : ℕ) → joined wide (n % 2 ^ 64) (high_bits wide n) < span wide
joined_below true n = omega arith
joined_below false n = omega arith

and_below : (wide : Bool) (m n : ℕ) → m < span wide → n < span wide → bit_and m n < span wide
and_below true m n = and_lt 128 m n
and_below false m n = and_lt 64 m n

or_below : (wide : Bool) (m n : ℕ) → m < span wide → n < span wide → bit_or m n < span wide
or_below true m n = or_lt 128 m n
or_below false m n = or_lt 64 m n

xor_below : (wide : Bool) (m n : ℕ) → m < span wide → n < span wide → bit_xor m n < span wide
xor_below true m n = xor_lt 128 m n
xor_below false m n = xor_lt 64 m n

inverse_below : (wide : Bool) (m : ℕ) → bit_not (width_of wide) m < span wide
inverse_below true m = omega arith
inverse_below false m = omega arith

wrapped_below : (wide : Bool) (m : ℕ) → m % span wide < span wide
wrapped_below true m = omega arith
wrapped_below false m = omega arith

module _ {T : Type 0} (c : Coding T) (back : GivesBack c) where
  -- what is made of bits is a value
  made_is_value : (n : ℕ) → n < span c.wide → IsValue (arithmetic_of c) (c.of_bits n)
  made_is_value n bound = ap c.of_bits (ap (λ m. joined c.wide (m % 2 ^ 64) (high_bits c.wide m)) (back n bound) ∙ words_join c.wide n bound)

  -- and the bits of a value are within the type
  bits_below : (v : T) → IsValue (arithmetic_of c) v → c.to_bits v < span c.wide
  bits_below v is =
      let n : ℕ = joined c.wide (c.to_bits v % 2 ^ 64) (high_bits c.wide (c.to_bits v)) in
      let same : c.to_bits v ≡ n = ap c.to_bits (sym is) ∙ back n (joined_below c.wide (c.to_bits v)) in
      subst (λ m. m < span c.wide) (sym same) (joined_below c.wide (c.to_bits v))

  chosen_is_value : (b : Bool) (x y : T) → IsValue (arithmetic_of c) x → IsValue (arithmetic_of c) y → IsValue (arithmetic_of c) (cond b x y)
  chosen_is_value true x y p q = p
  chosen_is_value false x y p q = q

  pub is_closed : IsClosed (arithmetic_of c)
  is_closed = record {
    add = λ x y p q. made_is_value _ (wrapped_below c.wide _);
    subtract = λ x y p q. made_is_value _ (wrapped_below c.wide _);
    and = λ x y p q. made_is_value _ (and_below c.wide _ _ (bits_below x p) (bits_below y q));
    or = λ x y p q. made_is_value _ (or_below c.wide _ _ (bits_below x p) (bits_below y q));
    xor = λ x y p q. made_is_value _ (xor_below c.wide _ _ (bits_below x p) (bits_below y q));
    inverse = λ x p. made_is_value _ (inverse_below c.wide _);
    greater = λ x y p q. chosen_is_value (is_lt (c.compare y x)) x y p q;
    lesser = λ x y p q. chosen_is_value (is_lt (c.compare y x)) y x q p;
  }

unsigned_back : (wide : Bool) → GivesBack (unsigned wide)
unsigned_back wide n bound = refl

signed_back : (wide : Bool) → GivesBack (signed wide)
signed_back true n bound = of_z-to_z w128 n bound
signed_back false n bound = of_z-to_z w64 n bound

pub unsigned_closed : (wide : Bool) → IsClosed (arithmetic_of (unsigned wide))
unsigned_closed wide = is_closed (unsigned wide) (unsigned_back wide)

pub signed_closed : (wide : Bool) → IsClosed (arithmetic_of (signed wide))
signed_closed wide = is_closed (signed wide) (signed_back wide)

-- A number of the type is a value.

pub unsigned_value : (wide : Bool) (v : ℕ) → v < span wide → IsValue (arithmetic_of (unsigned wide)) v
unsigned_value wide v bound = made_is_value (unsigned wide) (unsigned_back wide) v bound

signed_below : (wide : Bool) (v : ℤ) → FitsSigned (width_of wide) v → cast_unsigned (width_of wide) v < span wide
signed_below true (pos n) fits = let bound = fits.sfits in omega (arith, bound)
signed_below true (negsuc n) fits = let bound = fits.sfits in omega (arith, bound)
signed_below false (pos n) fits = let bound = fits.sfits in omega (arith, bound)
signed_below false (negsuc n) fits = let bound = fits.sfits in omega (arith, bound)

pub signed_value : (wide : Bool) (v : ℤ) → FitsSigned (width_of wide) v → IsValue (arithmetic_of (signed wide)) v
signed_value wide v fits = ap (cast_signed (width_of wide)) (words_join wide _ (signed_below wide v fits)) ∙ to_z-of_z (width_of wide) v fits
