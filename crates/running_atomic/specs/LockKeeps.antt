-- Each step of the lock, as a fact of its word, the data words and the holds.
use Rattle.std.specs.Prelude.{◌≡◌, ℕ, ◌-◌, ◌^◌, Bool}
use Rattle.running_atomic.specs.Names.{Held, Free, Reading, Writing, TellsSame, both_held, write_holds, Locks, arith, nat_tests, eqb-true, eqb-false}
use Rattle.running_atomic.specs.AtomicRule.{register_of}

-- where nobody writes, the register is what the data words are
pub no_writer : {X : Type 0} (t : Held X) (d : X) → write_holds t ≡ 0 → register_of t d ≡ d
no_writer t d h1 = grind (arith, nat_tests, eqb-true, eqb-false)

module _ {X : Type 0} (same : X → X → Bool) (tells : TellsSame same) where
  abbrev sum : Held X → Held X → Held X
  sum = both_held same

  -- a read hold knows the data words, which are the register's
  pub reads : (n : ℕ) (d x : X) (rest : Held X) → Locks n d (sum (Reading 0 x) rest) → (x ≡ d) × (register_of (sum (Reading 0 x) rest) d ≡ d)
  reads n d x rest h1 = grind (arith, nat_tests, eqb-true, eqb-false)

  -- a write hold is alone
  pub writes : (n : ℕ) (d x t : X) (rest : Held X) → Locks n d (sum (Writing x t) rest) → (rest ≡ Free) × (n ≡ 2 ^ 64 - 1) × (x ≡ d)
  writes n d x t rest h1 = grind (arith, nat_tests, eqb-true, eqb-false)
