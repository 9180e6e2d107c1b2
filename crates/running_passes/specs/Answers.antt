-- What the answer of a call that may give up says, and what it says of the closures that it called.
use Rattle.std.specs.Prelude.{◌≡◌, ℕ, ◌+◌, ◌≤◌}
use Rattle.std.specs.Borrow.{Fml, GName, RattleType, MutBor, Bor, follows_so}
use Rattle.std.specs.Fn.{Shared, FnReturns, FnReturnsAt}
use mathlib.Core.Option as maybe
use Rattle.model_events.specs.declared.WaitAction.{WaitAction}
use Rattle.running_passes.specs.declared.pass.Pass.{Pass}
use Rattle.running_passes.specs.Passes.{sights_of}
use Rattle.running_passes.specs.declared.wait.WaitResult.{WaitResult}
use Rattle.running_passes.specs.declared.wait.WaitResult.TheVariants.{Success, Interrupted}

module _ {H : Type 0} where
  -- P holds of what was got
  abbrev pub IfSuccess : WaitResult H → (H → Type 0) → Type 0
  IfSuccess (Success h) P = P h
  IfSuccess Interrupted P = Unit {0}

  abbrev pub IfInterrupted : WaitResult H → Type 0 → Type 0
  IfInterrupted (Success h) P = Unit {0}
  IfInterrupted Interrupted P = P

  abbrev pub IsSuccess : WaitResult H → Type 0
  IsSuccess (Success h) = Unit {0}
  IsSuccess Interrupted = ⊥

  abbrev pub IsInterrupted : WaitResult H → Type 0
  IsInterrupted (Success h) = ⊥
  IsInterrupted Interrupted = Unit {0}

  abbrev pub borrow_if_success : (H → GName) → WaitResult H → maybe.Option GName
  borrow_if_success borrow (Success h) = maybe.some (borrow h)
  borrow_if_success borrow Interrupted = maybe.none

-- The pass behind `pass` is lent to what was got. At Interrupted it is given back, and P holds of it as it then is.
abbrev pub RestsIfInterrupted : (R : RattleType) → MutBor R.Denot → {H : Type 0} → (H → GName) → WaitResult H → (R.Denot → Type 0) → Fml
RestsIfInterrupted R pass borrow result P =
    follows_so R R pass.ghost_name (borrow_if_success borrow result) (λ x n. IfSuccess result (λ _. n ≡ x)) (λ n. IfInterrupted result (P n))

-- By what the wait closure promises of its calls, one of them may answer so, of some word that was seen to have a value with P.
pub record MayAnswer {F W : Type 0} (g : Shared F (Bor W × (Bor ℕ × Unit {0})) WaitAction) (wait : F) (P : ℕ → Type 0) (action : WaitAction) : Type 0 where
  pub word : Bor W
  pub seen : Bor ℕ
  pub named : P seen.now
  pub says : FnReturns g wait (word, (seen, tt)) action

abbrev pub MayAnswerAbort : {F W : Type 0} → Shared F (Bor W × (Bor ℕ × Unit {0})) WaitAction → F → (ℕ → Type 0) → Type 0
MayAnswerAbort g wait P = MayAnswer g wait P WaitAction.Abort

abbrev pub MayAnswerContinue : {F W : Type 0} → Shared F (Bor W × (Bor ℕ × Unit {0})) WaitAction → F → (ℕ → Type 0) → Type 0
MayAnswerContinue g wait P = MayAnswer g wait P WaitAction.Continue

-- A call that gave up looked so often by itself, and then once more at least; a second time only where the wait closure may answer
-- Continue. So where it never does, the looks are counted exactly.
pub record HasAsked {F W T : Type 0} (g : Shared F (Bor W × (Bor ℕ × Unit {0})) WaitAction) (wait : F) (P : ℕ → Type 0) (looks : ℕ) (p q : Pass T) : Type 0 where
  pub more : ℕ
  pub looked : (sights_of q).count ≡ (sights_of p).count + looks + more
  pub some : 1 ≤ more
  pub again : 2 ≤ more → MayAnswerContinue g wait P

-- What the wake closure promises of a call holds, for some word.
pub record HasWoken {F W : Type 0} (g : Shared F (Bor W × Unit {0}) (Unit {0})) (wake : F) : Type 0 where
  pub word : W
  pub says : FnReturnsAt g wake word tt
