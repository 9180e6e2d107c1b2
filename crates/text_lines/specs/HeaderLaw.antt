-- A first line opens the object that its words name.
use Rattle.std.specs.Prelude.{◌≡◌, ℕ, ◌<◌, ◌≤◌, ◌^◌, List, [], ◌∷◌, Ok, codes}
use Rattle.text_lines.specs.Names.{Object, Arithmetic, IsValue, decimal}
use Rattle.text_lines.specs.declared.value_type.ValueType.{ValueType}
use Rattle.text_lines.specs.Header.{header_of}
use Rattle.text_lines.specs.Numerals.{Numerals}
use Rattle.text_lines.specs.ValueTypes.{meaning_of}

-- what a first line says of an object: its name, and after the number of parties the value that it is opened with
abbrev pub first_words : {T : Type 0} → Numerals T → List ℕ → Object T → List (List ℕ)
first_words numerals parties Object.Mutex = codes "mutex" ∷ parties ∷ []
first_words numerals parties Object.Spin = codes "spin" ∷ parties ∷ []
first_words numerals parties (Object.Semaphore initial) = codes "semaphore" ∷ parties ∷ decimal initial ∷ []
first_words numerals parties (Object.Barrier n) = codes "barrier" ∷ parties ∷ decimal n ∷ []
first_words numerals parties Object.ReaderLock = codes "rwreader" ∷ parties ∷ []
first_words numerals parties Object.WriterLock = codes "rwwriter" ∷ parties ∷ []
first_words numerals parties Object.Condvar = codes "condvar" ∷ parties ∷ []
first_words numerals parties Object.Once = codes "once" ∷ parties ∷ []
first_words numerals parties (Object.Lazy v) = codes "lazy" ∷ parties ∷ numerals.decimal_of v ∷ []
first_words numerals parties (Object.Atomic v) = numerals.atomic ∷ parties ∷ numerals.decimal_of v ∷ []

-- it is opened with a value of its type
abbrev pub OpensWithin : {T : Type 0} → Arithmetic T → Object T → Type 0
OpensWithin z (Object.Semaphore initial) = initial < 2 ^ 64
OpensWithin z (Object.Barrier n) = n < 2 ^ 32
OpensWithin z (Object.Lazy v) = IsValue z v
OpensWithin z (Object.Atomic v) = IsValue z v
OpensWithin z o = Unit {0}

abbrev pub Opens : {T : Type 0} → Arithmetic T → Numerals T → Type 0
Opens {T} z numerals =
    (o : Object T) (parties : ℕ) → OpensWithin z o → 1 ≤ parties → parties ≤ 64 → header_of numerals (first_words numerals (decimal parties) o) ≡ Ok (record { object = o; parties = parties })

-- whatever the type of a text's values
abbrev pub FirstLinesOpen : Type 0
FirstLinesOpen = (values : ValueType) → Opens (meaning_of values).arithmetic (meaning_of values).numerals
