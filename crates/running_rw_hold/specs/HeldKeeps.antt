-- What each step of a reader-writer lock does to what all passes count, whatever its holds know.
use Rattle.std.specs.Prelude.{◌≡◌, ℕ, ◌+◌, ◌-◌, ◌^◌, ◌<◌, Bool}
use Rattle.std.proofs.Common.{arith}
use Rattle.std.proofs.lemmas.Bool.{eqb-true, eqb-false}
use Rattle.std.proofs.lemmas.Bool.Decides.{nat_tests}
use Rattle.running_rw_hold.specs.declared.held.Held.{Held}
use Rattle.running_rw_hold.specs.declared.held.Held.TheVariants.{Free, Writing}
use Rattle.running_rw_hold.specs.Held.{TellsSame, both_held, read_holds, write_holds, Knows, reader_in, reader_out, Locks}

module _ {X : Type 0} where
  -- what no more stands than may, and has no hold, is free
  pub is_free : (kept : X) (t : Held X) → Knows kept t → read_holds t ≡ 0 → write_holds t ≡ 0 → t ≡ Free
  is_free kept t h1 h2 h3 = grind (arith, nat_tests, eqb-true, eqb-false)

  -- what writes does not read, and what reads does not write
  pub only_writes : (kept : X) (t : Held X) → Knows kept t → write_holds t ≡ 1 → read_holds t ≡ 0
  only_writes kept t h1 h2 = grind (arith, nat_tests, eqb-true, eqb-false)

  pub only_reads : (kept : X) (t : Held X) → Knows kept t → 0 < read_holds t → write_holds t ≡ 0
  only_reads kept t h1 h2 = grind (arith, nat_tests, eqb-true, eqb-false)

module _ {X : Type 0} (same : X → X → Bool) (tells : TellsSame same) (kept : X) where
  -- Of two parts no more stands than may: then each knows what is kept, their holds add up, and beside a write hold there is no other.
  pub record Parts (t u : Held X) : Type 0 where
    pub first : Knows kept t
    pub second : Knows kept u
    pub reads : read_holds (both_held same t u) ≡ read_holds t + read_holds u
    pub writes : write_holds (both_held same t u) ≡ write_holds t + write_holds u
    pub alone : write_holds t ≡ 1 → u ≡ Free

  pub parts : (t u : Held X) → Knows kept (both_held same t u) → Parts t u
  parts t u h1 = grind (arith, nat_tests, eqb-true, eqb-false)

  -- A reader comes in where no writer is.
  pub record ReaderIn (word : ℕ) (t rest : Held X) : Type 0 where
    pub locks : Locks (word + 1) kept (both_held same (reader_in same kept t) rest)
    pub reads : read_holds (reader_in same kept t) ≡ read_holds t + 1
    pub no_writer : write_holds t ≡ 0
    pub still_none : write_holds (reader_in same kept t) ≡ 0

  pub comes_in : (word : ℕ) (t rest : Held X) → Locks word kept (both_held same t rest) → word < 2 ^ 64 - 2 → ReaderIn word t rest
  comes_in word t rest h1 h2 = grind (arith, nat_tests, eqb-true, eqb-false)

  -- One leaves that reads.
  pub record ReaderOut (word : ℕ) (t rest : Held X) : Type 0 where
    pub some : 0 < word
    pub locks : Locks (word - 1) kept (both_held same (reader_out t) rest)
    pub reads : read_holds (reader_out t) + 1 ≡ read_holds t
    pub no_writer : write_holds t ≡ 0
    pub still_none : write_holds (reader_out t) ≡ 0

  pub goes_out : (word : ℕ) (t rest : Held X) → Locks word kept (both_held same t rest) → 0 < read_holds t → ReaderOut word t rest
  goes_out word t rest h1 h2 = grind (arith, nat_tests, eqb-true, eqb-false)

  -- A writer comes in where the word is 0, so where nobody has a hold.
  pub record WriterIn (t rest : Held X) : Type 0 where
    pub locks : Locks (2 ^ 64 - 1) kept (both_held same (Writing kept kept) rest)
    pub off : t ≡ Free

  pub takes_over : (word : ℕ) (t rest : Held X) → Locks word kept (both_held same t rest) → word ≡ 0 → WriterIn t rest
  takes_over word t rest h1 h2 = grind (arith, nat_tests, eqb-true, eqb-false)
