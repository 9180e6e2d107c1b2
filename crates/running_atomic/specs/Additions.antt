-- A pass that has added one number so often, and done nothing else.
use Rattle.std.specs.Prelude.{◌≡◌, ℕ, ◌+◌, List, [], ◌∷◌}
use Rattle.running_atomic.specs.Names.{zero, suc, Arithmetic, RegisterAct, plain}
use Rattle.model_events.specs.declared.event.Call.TheVariants as calls
use Rattle.running_atomic.specs.declared.pass.AtomicPass.{AtomicPass}
use Rattle.running_atomic.specs.AtomicShown.{own_of, history_of}

-- how many acts are counted
abbrev pub acts_in_all : List ℕ → ℕ
acts_in_all [] = 0
acts_in_all (n ∷ own) = n + acts_in_all own

-- each act of the history that is counted is an addition of x, and none beyond it is counted
abbrev pub AreAdditions : {T : Type 0} → T → List ℕ → List (RegisterAct T) → Type 0
AreAdditions x [] history = Unit {0}
AreAdditions x (zero ∷ own) [] = AreAdditions x own []
AreAdditions x (suc n ∷ own) [] = ⊥
AreAdditions x (zero ∷ own) (a ∷ history) = AreAdditions x own history
AreAdditions x (suc n ∷ own) (a ∷ history) = (a ≡ plain (calls.FetchAdd x)) × AreAdditions x own history

-- the pass's own acts are so many additions of x
pub record HasAdded {T : Type 0} (z : Arithmetic T) (x : T) (times : ℕ) (p : AtomicPass T) : Type 0 where
  pub often : acts_in_all (own_of p) ≡ times
  pub each : AreAdditions x (own_of p) (history_of z p)

-- v, after x was added so often
abbrev pub after_adding : {T : Type 0} → Arithmetic T → T → ℕ → T → T
after_adding z x zero v = v
after_adding z x (suc n) v = after_adding z x n (z.add v x)
