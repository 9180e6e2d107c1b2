-- What a step on the word of a guarded value tells of the seat that makes it, and what several steps change in what the seat knows.
use Rattle.std.specs.Prelude.{◌≡◌, ℕ, ◌+◌, ◌≤◌, Bool, Option, Some}
use Rattle.running_guarded.specs.Names.{Bor, MutBor, Shared, Once, FnOnceReturnsAtMut, seen_instead, MayAnswerContinue, WaitAction, Call, Answer, HoldKind, mutex_model, Parties, Coming, HasCalled, Unlocks, IsLocked, Sees, OnlySees}
use Rattle.running_spin_lock.specs.ValueSteps as values
use Rattle.running_guarded.specs.GuardedRule.{MutexView}

-- it was seen locked once, by an exchange of 0 for 1, and nothing else changed that the pass counts or saw
abbrev pub SeesLocked : MutexView → MutexView → Type 0
SeesLocked v w = Sees (λ s. seen_instead s 0 1) v w

-- an exchange of 0 for 1 that the table has, to which the pass came so, found the lock free, or not
abbrev pub Tries : Coming ℕ → Bool → MutexView → MutexView → Type 0
Tries coming free v w = values.Tries mutex_model coming free v w

-- Several steps.

-- it was seen locked so often, and at last, and nothing else changed
pub record SeesLockedOften (n : ℕ) (v w : MutexView) : Type 0 where
  pub only : OnlySees v w
  pub count : w.sights.count ≡ v.sights.count + n
  pub last : IsLocked w.sights.last

-- so, however often
pub record StaysLocked (v w : MutexView) : Type 0 where
  pub times : ℕ
  pub seen : SeesLockedOften times v w

-- A call that gave up was refused in so many tries of its own, and in one or more once it had asked its wait closure; in a second only
-- where that may answer Continue.
pub record GivesUp {F W : Type 0} (tries : ℕ) (g : Shared F (Bor W × (Bor ℕ × Unit {0})) WaitAction) (wait : F) (v w : MutexView) : Type 0 where
  pub more : ℕ
  pub refused : SeesLockedOften (tries + more) v w
  pub some : 1 ≤ more
  pub again : 2 ≤ more → MayAnswerContinue g wait IsLocked

-- The pass as a party of the mutex's model.

-- There is a run of the model, which keeps the mutex's law, in which a party of the pass has just been answered so by this call. It is
-- the one call that the pass has made since, as a party that is new; and it has this hold now.
abbrev pub Plays : Call ℕ → Answer ℕ → Option HoldKind → MutexView → MutexView → Type 0
Plays call answer hold v w = values.Plays mutex_model call answer hold v w

-- the party that had the hold has begun an `Unlock` and stored 0, and is to wake one
abbrev pub PlaysUnlock : MutexView → MutexView → Type 0
PlaysUnlock v w = Unlocks v.tally.parties w.tally.parties

-- the pass has made a `Lock` that was granted, and then, as that party, an `Unlock`
abbrev pub PlaysBoth : MutexView → MutexView → Type 0
PlaysBoth v w = (held : Parties ℕ) × HasCalled mutex_model Call.Lock Answer.Success (Some HoldKind.Write) v.tally.parties held × Unlocks held w.tally.parties

-- by what the closure promises of its calls, it gave this, and made some value of the one that it was lent
pub record Acts {F T X : Type 0} (g : Once F (MutBor T × Unit {0}) (X × (MutBor T × Unit {0}))) (act : F) (given : X) : Type 0 where
  pub found : T
  pub left : T
  pub says : FnOnceReturnsAtMut g act found given left
