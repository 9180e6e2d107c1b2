-- How a call waits that has a wait closure: it spins so often, then asks; what it tells the closure; and that it asks no more once that has
-- answered Abort. What counts as a spin, what refuses a call, and which events are those of one wait, is each object's own.
use Rattle.std.specs.Prelude.{◌≡◌, ◌≤◌, ℕ, ◌-◌, true, if◌then◌else◌, List, [], ◌∷◌, Option, Some, MatchOption}
use Rattle.model_events.specs.Types.{Word, Call, Act, Event, Then}
use Rattle.model_events.specs.Past.{PendingCall, call_of}
use Rattle.model_events.specs.Sights.{sight_of, keeps_asking}

-- where an act leaves its call at its wait closure, P of the call, the act and what the closure is told
abbrev pub WhereAsked : {T : Type 0} → (PendingCall T → Act T → ℕ → Type 0) → Option (PendingCall T) → Act T → Then T → Type 0
WhereAsked P pending act (Then.Waits told) = MatchOption pending ⊥ (λ c. P c act told)
WhereAsked P pending act outcome = Unit {0}

-- where the latest event asks a wait closure
abbrev pub AsksWhere : {T : Type 0} → (PendingCall T → Act T → ℕ → Type 0) → List (Event T) → Type 0
AsksWhere P [] = Unit {0}
AsksWhere P (e ∷ past) = WhereAsked P (call_of e.party past) e.act e.then

-- how often a call with these own events has spun
abbrev pub SpinCount : Type 0 → Type 0
SpinCount T = Call T → List (Event T) → ℕ

-- a wait closure is asked only after exactly 10000 spins
abbrev pub AsksAfterSpinning : {T : Type 0} → SpinCount T → List (Event T) → Type 0
AsksAfterSpinning spins past = AsksWhere (λ c act told. spins c.call c.own ≡ 10000) past

-- and no call spins more often: it asks, or it is answered
abbrev pub SpinsNoMore : {T : Type 0} → SpinCount T → List (Event T) → Type 0
SpinsNoMore spins past = (party : ℕ) → MatchOption (call_of party past) (Unit {0}) (λ c. spins c.call c.own ≤ 10000)

-- The spins of a call whose last try may go on by itself too, to what it has yet to do as it gives up: that try is none of them.
abbrev pub but_last_try : {T : Type 0} → List (Event T) → ℕ → ℕ
but_last_try own spins = if keeps_asking own then spins else spins - 1

-- what it was that refused a call with these own events, by the act that leaves it at its closure
abbrev pub Refusing : Type 0 → Type 0
Refusing T = Call T → List (Event T) → Act T → Option ℕ

-- what the act saw of a word
abbrev pub sight_at : {T : Type 0} → Word → Refusing T
sight_at word call own act = sight_of word act

-- a wait closure is told what refused its call last
abbrev pub TellsRefusal : {T : Type 0} → Refusing T → List (Event T) → Type 0
TellsRefusal refusing past = AsksWhere (λ c act told. refusing c.call c.own act ≡ Some told) past

-- the events of the wait that a call with these own events is in
abbrev pub WaitEvents : Type 0 → Type 0
WaitEvents T = Call T → List (Event T) → List (Event T)

-- all of them, where a call waits for one thing alone
abbrev pub whole_call : {T : Type 0} → WaitEvents T
whole_call call own = own

-- a wait closure is asked only where it has not yet answered Abort in the same wait
abbrev pub AsksUntilAbort : {T : Type 0} → WaitEvents T → List (Event T) → Type 0
AsksUntilAbort of_wait past = AsksWhere (λ c act told. keeps_asking (of_wait c.call c.own) ≡ true) past

-- How an object's calls wait that ask a wait closure: how often they have spun, what they do no more often, what refuses them, and which events are those of one wait.
pub record Waiting (T : Type 0) : Type 0 where
  pub spins : SpinCount T
  pub goes_on : SpinCount T
  pub refusing : Refusing T
  pub wait : WaitEvents T

-- What each of them keeps.
pub record WaitsAs {T : Type 0} (w : Waiting T) (past : List (Event T)) : Type 0 where
  -- a wait closure is asked only after exactly 10000 spins
  pub asks : AsksAfterSpinning w.spins past
  -- no call goes on by itself more often
  pub spins : SpinsNoMore w.goes_on past
  -- the closure is told what refused its call last
  pub tells : TellsRefusal w.refusing past
  -- and in the same wait asked no more once it has answered Abort
  pub stops : AsksUntilAbort w.wait past
