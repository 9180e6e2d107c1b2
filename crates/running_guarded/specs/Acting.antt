-- What a closure did that acts on a value, or cannot yet; and what a call did that calls it until it acts.
use Rattle.std.specs.Prelude.{ℕ, ◌≡◌, ◌+◌, ◌⊎◌, Bool, true, false, Some, None, Option, is_some}
use Rattle.running_guarded.specs.Names.{WaitResult, Success, Interrupted, MutBor, Bor, Mut, CalledAtMut, Often, WaitAction}
use Rattle.running_condvar.specs.CondShown.{HasSlept, permits_in}
use Rattle.running_condvar.specs.declared.CondPass.{CondPass}
use Rattle.running_condvar.specs.declared.ConditionVariable.{ConditionVariable}
use Rattle.running_semaphore.specs.SemaphoreShown.{initial_of}
use Rattle.running_model.specs.Asked.{WokeOnce}
use Rattle.running_guarded.specs.GuardedSteps.{PlaysBoth}
use Rattle.running_guarded.specs.GuardedShown.{grants_of, view}
use Rattle.running_guarded.specs.declared.pass.GuardedPass.{GuardedPass}
use Rattle.running_guarded.specs.declared.when.Looked.{Looked}
use Rattle.running_guarded.specs.declared.when.Looked.TheVariants.{Acted, Again, GaveUp}

module _ {F T X : Type 0} (g : Mut F (MutBor T × Unit {0}) (Option X × (MutBor T × Unit {0}))) where
  -- By what the closure promises of its calls, one in this state gave this answer and left it in that; and it made some value of the one that it
  -- was lent.
  pub record HasAnswered (answer : Option X) (before after : F) : Type 0 where
    pub found : T
    pub left : T
    pub says : CalledAtMut g before found answer after left

  -- it was called so often in a row and could not act, and then once more, which gave this answer
  abbrev pub HasAnsweredAfter : ℕ → Option X → F → Type 0
  HasAnsweredAfter declined answer act = (last : F) × (after : F) × Often (HasAnswered None) declined act last × HasAnswered answer last after

module _ {X : Type 0} where
  -- what the closure gave, if it acted
  abbrev pub given_by : Looked X → Option X
  given_by (Acted x) = Some x
  given_by Again = None
  given_by GaveUp = None

  abbrev pub answer_of : WaitResult X → Option X
  answer_of (Success x) = Some x
  answer_of Interrupted = None

  -- if it waited, whether a notify came
  abbrev pub slept_by : Looked X → Option Bool
  slept_by (Acted x) = None
  slept_by Again = Some true
  slept_by GaveUp = Some false

-- the value that the permits of a condition variable were made with
abbrev pub permits_of : {A S : Type 0} → ConditionVariable A S → ℕ
permits_of c = initial_of c.semaphore

-- the passes and the closures of a call that looks: those of the wake, of the wait, and that which acts
abbrev pub Looker : (K W F : Type 0) → Type 0
Looker K W F = GuardedPass × CondPass × K × W × F

-- it did not wait, or waited once and asked as that says
abbrev pub Sleeps : {W Y A S : Type 0} → Mut W (Bor Y × (Bor ℕ × Unit {0})) WaitAction → Y → ConditionVariable A S → Option Bool → CondPass → W → CondPass → W → Type 0
Sleeps w shown c None p wait q after = (permits_in q ≡ permits_in p) × (after ≡ wait)
Sleeps w shown c (Some notified) p wait q after = HasSlept w shown wait after (permits_of c) notified (permits_in p) (permits_in q)

module _ {F T X K W V Y A S : Type 0} (g : Mut F (MutBor T × Unit {0}) (Option X × (MutBor T × Unit {0}))) (k : Mut K (Bor V × Unit {0}) (Unit {0})) (w : Mut W (Bor Y × (Bor ℕ × Unit {0})) WaitAction)
    (IsIts : V → Type 0) (shown : Y) (c : ConditionVariable A S) where
  -- One look: it locked, called the closure once, which gave this answer, unlocked, and woke once, by the word that is meant; and where it could not
  -- act it waited, whether it was notified or not.
  pub record LooksOnce (answer : Option X) (slept : Option Bool) (s t : Looker K W F) : Type 0 where
    pub called : HasAnswered g answer s.4 t.4
    pub granted : grants_of t.0 ≡ grants_of s.0 + 1
    pub played : PlaysBoth (view s.0) (view t.0)
    pub woke : WokeOnce k IsIts s.2 t.2
    pub sleeps : Sleeps w shown c slept s.1 s.3 t.1 t.3

  -- Look after look, each but the last notified. The last acted; or the wait closure had answered Abort in the one before it.
  pub record LooksUntil (answer : Option X) (s t : Looker K W F) : Type 0 where
    pub waits : ℕ
    pub between : Looker K W F
    pub before : Often (LooksOnce None (Some true)) waits s between
    pub last : ((is_some answer ≡ true) × LooksOnce answer None between t) ⊎ ((gave_up : Looker K W F) × LooksOnce None (Some false) between gave_up × LooksOnce answer None gave_up t)
