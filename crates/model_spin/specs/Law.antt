-- What a spin lock keeps at every prefix of every run: one holder, who has the lock after each answer, and that a call which waits only spins.
use Rattle.std.specs.Prelude.{◌≡◌, ◌≤◌, ℕ, ◌==◌, Bool, true, false, List, [], ◌∷◌, Option, Some, None, length, MatchBool, MatchOption, if◌then◌else◌}
use Rattle.model_events.specs.Exports.{Hold, call_of, holds_of, word_in, is_step, AtLastSight, StepsAs, EndsWithin, IsLocked, Keeps}
use Rattle.model_events.specs.declared.{event.Act.Act, event.Answer.Answer, event.Call.Call, event.Event.Event, event.Then.Then, event.Word.Word, hold.HoldKind.HoldKind}
use Rattle.model_spin.specs.Table.{spin_table}

-- `TryLock`: a hold stood at its last sight, which is its swap. No other call is refused.
abbrev pub SpinCause : {T : Type 0} → Call T → ℕ → List (Event T) → Type 0
SpinCause Call.TryLock party events = AtLastSight Word.State (IsLocked spin_table) party events
SpinCause other party events = ⊥

-- How a step leaves its call.

-- nobody holds the lock
abbrev pub is_unheld : List Hold → Bool
is_unheld [] = true
is_unheld (hold ∷ holds) = false

-- by whether nobody held the lock: each locking call then has it; else `TryLock` gives up, and the others go on; `Unlock` is done
abbrev pub IsLeft : {T : Type 0} → Call T → Bool → Then T → Type 0
IsLeft Call.TryLock free outcome = outcome ≡ Then.Answers (if free then Answer.Success else Answer.Interrupted)
IsLeft Call.Lock free outcome = outcome ≡ (if free then Then.Answers Answer.Success else Then.GoesOn)
IsLeft Call.BlockingLock free outcome = outcome ≡ (if free then Then.Answers Answer.Success else Then.GoesOn)
IsLeft Call.Unlock free outcome = outcome ≡ Then.Answers Answer.Done
IsLeft other free outcome = ⊥

-- so the latest event leaves its call, if it is a step
abbrev pub LeavesByHolds : {T : Type 0} → List (Event T) → Type 0
LeavesByHolds [] = Unit {0}
LeavesByHolds (e ∷ past) =
    MatchBool (is_step e.act) (MatchOption (call_of e.party past) ⊥ (λ c. IsLeft c.call (is_unheld (holds_of spin_table past)) e.then)) (Unit {0})

-- What a call does next, by its own steps so far, and how it is left by what that tells.

-- a swap of 1 into the word: it leaves a call that found 0 with the lock, and any other so
abbrev pub SwapsOne : {T : Type 0} → Then T → Act T → Then T → Type 0
SwapsOne refused (Act.Swap Word.State old put) outcome = (put ≡ 1) × (outcome ≡ (if old == 0 then Then.Answers Answer.Success else refused))
SwapsOne refused act outcome = ⊥

-- The next step of each call; no other has one. `TryLock` swaps once, `Lock` and `BlockingLock` until they found 0, and `Unlock` stores 0.
abbrev pub SpinStep : {T : Type 0} → Call T → List (Event T) → Act T → Then T → Type 0
SpinStep Call.TryLock own act outcome = (own ≡ []) × SwapsOne (Then.Answers Answer.Interrupted) act outcome
SpinStep Call.Lock own act outcome = SwapsOne Then.GoesOn act outcome
SpinStep Call.BlockingLock own act outcome = SwapsOne Then.GoesOn act outcome
SpinStep Call.Unlock own act outcome = (own ≡ []) × (act ≡ Act.Store Word.State 0) × (outcome ≡ Then.Answers Answer.Done)
SpinStep other own act outcome = ⊥

-- how many steps a call makes that waits for nobody
abbrev pub spin_most : {T : Type 0} → Call T → Option ℕ
spin_most Call.TryLock = Some 1
spin_most Call.Unlock = Some 1
spin_most other = None

-- Who has the lock: `Success` takes it from nobody, `Done` gives it back, and nothing else changes who has it.
abbrev pub IsHandedOn : {T : Type 0} → ℕ → Then T → List Hold → List Hold → Type 0
IsHandedOn party (Then.Answers Answer.Success) before holds = (before ≡ []) × (holds ≡ (party, HoldKind.Write) ∷ [])
IsHandedOn party (Then.Answers Answer.Done) before holds = (before ≡ (party, HoldKind.Write) ∷ []) × (holds ≡ [])
IsHandedOn party other before holds = holds ≡ before

abbrev pub HandsOn : {T : Type 0} → List (Event T) → Type 0
HandsOn [] = Unit {0}
HandsOn (e ∷ past) = IsHandedOn e.party e.then (holds_of spin_table past) (holds_of spin_table (e ∷ past))

-- The word counts the holds.
pub record CountsHolds {T : Type 0} (past : List (Event T)) : Type 0 where
  pub counted : word_in spin_table past Word.State ≡ length (holds_of spin_table past)
  pub most : word_in spin_table past Word.State ≤ 1

-- What a spin lock keeps beside what every object does.
pub record SpinLaw {T : Type 0} (past : List (Event T)) : Type 0 where
  -- a locking call has the lock at once exactly where nobody held it; where somebody did, `TryLock` gives up, and the others go on for as long
  pub leaves : LeavesByHolds past
  -- each step is the one that follows its call's own, and leaves it by what it tells
  pub steps : StepsAs SpinStep past
  -- a call that waits for nobody makes so many steps at most, and answers with the last
  pub within : EndsWithin spin_most past
  -- `Success` takes the lock from nobody, `Done` gives it back, and nothing else changes who has it
  pub hands_on : HandsOn past
  -- the word is the number of holds, 1 at most
  pub word : CountsHolds past

abbrev pub KeepsSpin : {T : Type 0} → List (Event T) → Type 0
KeepsSpin past = Keeps spin_table SpinCause SpinLaw past
