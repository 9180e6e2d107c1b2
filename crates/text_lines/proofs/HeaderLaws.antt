-- A first line opens the object that its words name.
use Rattle.std.proofs.Common.{◌≡◌, refl, ap, ◌∙◌, ℕ, ◌≤◌, ◌^◌, ◌-◌, List, [], ◌∷◌, Some, Result, Ok, arith}
use Rattle.text_lines.specs.Names.{Object, Arithmetic, decimal}
use Rattle.text_lines.specs.declared.fault.LineFault.{LineFault}
use Rattle.text_lines.specs.declared.header.Header.{Header}
use Rattle.text_lines.specs.declared.value_type.ValueType.{ValueType}
use Rattle.text_lines.specs.Header.{header_of, opened_as}
use Rattle.text_lines.specs.HeaderLaw.{Opens, FirstLinesOpen}
use Rattle.text_lines.specs.Lexer.{number_within}
use Rattle.text_lines.specs.Numerals.{Numerals, ReadsItsOwn}
use Rattle.text_lines.specs.NumeralLaws.{number_reads_back}
use Rattle.text_lines.specs.Objects.{object_named}
use Rattle.text_lines.specs.ValueTypes.{meaning_of}
use Rattle.text_lines.specs.Fault.{◌>>=◌}

-- the number of parties is read back, beside an object that was
abbrev with_parties : {T : Type 0} → Result (Object T) LineFault → List ℕ → Result (Header T) LineFault
with_parties opened parties = opened >>= λ object. number_within 1 64 parties >>= λ n. Ok (record { object = object; parties = n })

opens_as : {T : Type 0} (opened : Result (Object T) LineFault) (o : Object T) (parties : ℕ) → 1 ≤ parties → parties ≤ 64 → opened ≡ Ok o → with_parties opened (decimal parties) ≡ Ok (record { object = o; parties = parties })
opens_as opened o parties some few is = rw (is, number_reads_back 1 64 parties some few (omega arith)) refl

module _ {T : Type 0} (z : Arithmetic T) (numerals : Numerals T) (own : ReadsItsOwn z numerals) (named : object_named numerals numerals.atomic ≡ Some (Object.Atomic tt)) where
  opens : Opens z numerals
  unfolding header_of
  opens Object.Mutex parties within some few = opens_as (Ok Object.Mutex) Object.Mutex parties some few refl
  opens Object.Spin parties within some few = opens_as (Ok Object.Spin) Object.Spin parties some few refl
  opens (Object.Semaphore initial) parties within some few =
      opens_as _ (Object.Semaphore initial) parties some few (ap (λ r. r >>= λ v. Ok (Object.Semaphore v)) (number_reads_back 0 (2 ^ 64 - 1) initial (omega arith) (omega (arith, within)) (omega arith)))
  opens (Object.Barrier n) parties within some few =
      opens_as _ (Object.Barrier n) parties some few (ap (λ r. r >>= λ v. Ok (Object.Barrier v)) (number_reads_back 0 (2 ^ 32 - 1) n (omega arith) (omega (arith, within)) (omega arith)))
  opens Object.ReaderLock parties within some few = opens_as (Ok Object.ReaderLock) Object.ReaderLock parties some few refl
  opens Object.WriterLock parties within some few = opens_as (Ok Object.WriterLock) Object.WriterLock parties some few refl
  opens Object.Condvar parties within some few = opens_as (Ok Object.Condvar) Object.Condvar parties some few refl
  opens Object.Once parties within some few = opens_as (Ok Object.Once) Object.Once parties some few refl
  opens (Object.Lazy v) parties within some few = opens_as _ (Object.Lazy v) parties some few (ap (λ r. r >>= λ v. Ok (Object.Lazy v)) (own v within))
  opens (Object.Atomic v) parties within some few =
      ap (opened_as numerals (decimal parties ∷ numerals.decimal_of v ∷ [])) named ∙ opens_as _ (Object.Atomic v) parties some few (ap (λ r. r >>= λ v. Ok (Object.Atomic v)) (own v within))

atomics_named : (values : ValueType) → object_named (meaning_of values).numerals (meaning_of values).numerals.atomic ≡ Some (Object.Atomic tt)
atomics_named ValueType.U64 = refl
atomics_named ValueType.U128 = refl
atomics_named ValueType.I64 = refl
atomics_named ValueType.I128 = refl

pub first_lines_open : FirstLinesOpen
first_lines_open values = opens (meaning_of values).arithmetic (meaning_of values).numerals (meaning_of values).reads_back (atomics_named values)
