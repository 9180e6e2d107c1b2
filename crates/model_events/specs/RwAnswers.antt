-- How a call of a lock with read and write holds ends: what it answers, by the hold that its party has then.
use Rattle.std.specs.Prelude.{◌≡◌, List, [], ◌∷◌, Option, Some, None, MatchOption}
use Rattle.model_events.specs.Types.{Call, Act, Answer, Then, Event, HoldKind}
use Rattle.model_events.specs.Past.{PendingCall, call_of, hold_of}
use Rattle.model_events.specs.Tables.{Table}

-- the kind of hold that a call is for
abbrev pub kind_wanted : {T : Type 0} → Call T → Option HoldKind
kind_wanted Call.ReadLock = Some HoldKind.Read
kind_wanted Call.TryReadLock = Some HoldKind.Read
kind_wanted Call.WriteLock = Some HoldKind.Write
kind_wanted Call.TryWriteLock = Some HoldKind.Write
kind_wanted call = None

-- the acts of a call's own events, newest first
abbrev pub acts_of : {T : Type 0} → List (Event T) → List (Act T)
acts_of [] = []
acts_of (e ∷ own) = e.act ∷ acts_of own

-- `Success` with the hold that was wanted, `Interrupted` with none
abbrev pub AnswersHold : {T : Type 0} → Option HoldKind → Option HoldKind → Answer T → Type 0
AnswersHold wanted None answer = answer ≡ Answer.Interrupted
AnswersHold wanted (Some kind) answer = (answer ≡ Answer.Success) × (wanted ≡ Some kind)

-- An `Unlock` ends with `Done`, once it has done what makes one, and without a hold; a locking call answers by its hold.
abbrev pub IsRwAnswer : {T : Type 0} → (List (Act T) → Type 0) → Call T → List (Act T) → Option HoldKind → Answer T → Type 0
IsRwAnswer HasUnlocked Call.Unlock done hold answer = (answer ≡ Answer.Done) × HasUnlocked done × (hold ≡ None)
IsRwAnswer HasUnlocked call done hold answer = AnswersHold (kind_wanted call) hold answer

-- where this act ends its call, by the hold after it
abbrev pub IsAnswered : {T : Type 0} → (List (Act T) → Type 0) → Option (PendingCall T) → Act T → Then T → Option HoldKind → Type 0
IsAnswered HasUnlocked pending act (Then.Answers answer) hold = MatchOption pending ⊥ (λ c. IsRwAnswer HasUnlocked c.call (act ∷ acts_of c.own) hold answer)
IsAnswered HasUnlocked pending act outcome hold = Unit {0}

-- so the latest event does
abbrev pub AnswersByHold : {T P : Type 0} → Table T P → (List (Act T) → Type 0) → List (Event T) → Type 0
AnswersByHold t HasUnlocked [] = Unit {0}
AnswersByHold t HasUnlocked (e ∷ past) = IsAnswered HasUnlocked (call_of e.party past) e.act e.then (hold_of t e.party (e ∷ past))
