-- What is done again and again.
use Rattle.std.specs.Prelude.{◌≡◌, ℕ}
use Rattle.running_condvar.specs.Names.{zero, suc, Answer, Call, SemPass, HasPlayed, initial_of}
use Rattle.running_condvar.specs.declared.CondPass.{CondPass}
use Rattle.running_condvar.specs.declared.ConditionVariable.{ConditionVariable}
use Rattle.running_condvar.specs.CondShown.{permits_in}

-- R leads so often from one to the next
abbrev pub Often : {S : Type 0} → (S → S → Type 0) → ℕ → S → S → Type 0
Often R zero s t = t ≡ s
Often {S} R (suc n) s t = (between : S) × Often R n s between × R between t

-- as a party that is new it has made one `Wait`, which was answered
abbrev pub WaitsForPermit : ℕ → SemPass → SemPass → Type 0
WaitsForPermit initial p q = (answer : Answer ℕ) × HasPlayed initial Call.Wait answer p q

-- the pass of a condition variable has waited for a permit so often, by a `Wait` each time, and made no other call of the permits
abbrev pub HasWaitedOften : {A S : Type 0} → ConditionVariable A S → ℕ → CondPass → CondPass → Type 0
HasWaitedOften c times p q = Often (WaitsForPermit (initial_of c.semaphore)) times (permits_in p) (permits_in q)
