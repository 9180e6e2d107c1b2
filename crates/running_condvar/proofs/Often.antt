-- A wait at a condition variable more.
use Rattle.running_condvar.proofs.Names.{ℕ, suc, sym, subst, initial_of, CondPass, permits_in}
use Rattle.running_condvar.specs.declared.ConditionVariable.{ConditionVariable}
use Rattle.running_condvar.specs.Often.{Often, WaitsForPermit, HasWaitedOften}

pub waits_again : {A S : Type 0} (c : ConditionVariable A S) (times : ℕ) (p q r : CondPass) → HasWaitedOften c times p q → HasWaitedOften c 1 q r → HasWaitedOften c (suc times) p r
waits_again c times p q r often once = (permits_in q, often, subst (λ s. WaitsForPermit (initial_of c.semaphore) s (permits_in r)) once.1 once.2)

pub waits_no_more : {A S : Type 0} (c : ConditionVariable A S) (times : ℕ) (p q r : CondPass) → HasWaitedOften c times p q → HasWaitedOften c 0 q r → HasWaitedOften c times p r
waits_no_more c times p q r often none = subst (λ s. Often (WaitsForPermit (initial_of c.semaphore)) times (permits_in p) s) (sym none) often
