use Rattle.std.specs.Prelude.{◌≡◌, ℕ, Bool}

-- What an integer type of the atomics computes: its two words, and its operators on all values.
pub record Arithmetic (T : Type 0) : Type 0 where
  -- the low and the high 64 bits of the value, in two's complement
  pub low : T → ℕ
  pub high : T → ℕ
  -- the value of two words
  pub of_words : ℕ → ℕ → T
  -- sum and difference, wrapped, and whether they wrapped
  pub add : T → T → T
  pub add_wraps : T → T → Bool
  pub subtract : T → T → T
  pub subtract_wraps : T → T → Bool
  -- the operators on bits
  pub and : T → T → T
  pub or : T → T → T
  pub xor : T → T → T
  pub inverse : T → T
  -- the greater and the lesser of two, and whether they are the same
  pub greater : T → T → T
  pub lesser : T → T → T
  pub same : T → T → Bool

-- v is a value of the type, and no number beyond it: its words give it back
abbrev pub IsValue : {T : Type 0} → Arithmetic T → T → Type 0
IsValue z v = z.of_words (z.low v) (z.high v) ≡ v

-- an operation leads from values to values
abbrev pub KeepsValues : {T : Type 0} → Arithmetic T → (T → T → T) → Type 0
KeepsValues {T} z f = (x y : T) → IsValue z x → IsValue z y → IsValue z (f x y)

-- so do all operators
pub record IsClosed {T : Type 0} (z : Arithmetic T) : Type 0 where
  pub add : KeepsValues z z.add
  pub subtract : KeepsValues z z.subtract
  pub and : KeepsValues z z.and
  pub or : KeepsValues z z.or
  pub xor : KeepsValues z z.xor
  pub inverse : (x : T) → IsValue z x → IsValue z (z.inverse x)
  pub greater : KeepsValues z z.greater
  pub lesser : KeepsValues z z.lesser
