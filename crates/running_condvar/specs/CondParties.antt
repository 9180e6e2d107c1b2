-- The party of the model that a pass of a condition variable's count is, and how its `Wait` goes.
use Rattle.std.specs.Prelude.{ℕ, List, None}
use Rattle.running_condvar.specs.Names.{Call, Answer, Then, Slot, Parties, IsAt, HasCalled, HasEnded, WaitersPlace}
use Rattle.running_condvar.specs.Cond.{waiters_model}

-- it is counted in, and the next that it does is to end what it does while it is so
abbrev pub IsInside : List (Slot ℕ) → Parties ℕ → Type 0
IsInside done p = IsAt waiters_model Call.Wait WaitersPlace.Inside Then.GoesOn None done p

-- so, whichever other parties the pass has
abbrev pub HasWaitInside : Parties ℕ → Type 0
HasWaitInside p = ∥ ((done : List (Slot ℕ)) × IsInside done p) ∥₁

-- it is counted out
abbrev pub IsOut : List (Slot ℕ) → Parties ℕ → Type 0
IsOut done p = HasEnded waiters_model Call.Wait Answer.Done None done p

-- As a party that is new the pass has made this one call, which was answered so, in a run that keeps the law of the count.
abbrev pub Plays : Call ℕ → Answer ℕ → Parties ℕ → Parties ℕ → Type 0
Plays call answer p q = HasCalled waiters_model call answer None p q
