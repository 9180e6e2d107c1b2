-- What contracts see of a machine, when a run stands at it, and what its calls promise.
use Rattle.std.specs.Prelude.{◌≡◌, ℕ, ◌-◌, ◌^◌, ◌<◌, ◌≤◌, min, List, ◌∷◌, length, Option, Some, None, slice_get, false}
use Rattle.sync_steps.specs.Names.{ForSome, Event, Input, Object, StepFault, Word, HoldKind, Arithmetic, call_of, hold_of, failures_in, ContinuesBy, ContinuesUpTo, word_at}
use Rattle.model_events.specs.declared.words.Words.{Words}
use Rattle.sync_steps.specs.declared.steps.fault.PlayFault.{PlayFault}
use Rattle.sync_steps.specs.declared.steps.place.Party.{Party}
use Rattle.sync_steps.specs.Objects.{table_of, Headline, has_word}
use Rattle.sync_steps.specs.Runs.{word_in, fault_of, IsNext, IsPast}
use Rattle.sync_steps.specs.Machine.Places.{IsParty}
pub mod Places
pub mod Turns
pub mod Applies
pub mod Strides

-- an object and its parties at a moment
pub record Configuration (T : Type 0) : Type 0 where
  pub object : Object T
  pub parties : List (Party T)
  pub words : Words
  pub failed : ℕ

-- Stands at: the run of these events, newest first, ends where the machine is.
pub record StandsAt {T : Type 0} (z : Arithmetic T) (o : Object T) (parties : ℕ) (past : List (Event T)) (m : Configuration T) : Type 0 where
  -- the events are a run
  pub run : IsPast z o parties past
  -- of this object and so many parties
  pub object_is : m.object ≡ o
  pub count : length m.parties ≡ parties
  -- its words are those that the run's memory tells
  pub memory : (word : Word) → word_at m.words word ≡ word_in z o past word
  -- it counted the exchanges that failed
  pub failed : m.failed ≡ min (failures_in past) (2 ^ 64 - 1)
  -- each party is where the run's call is, and has the run's hold
  pub each : (p : ℕ) → p < parties → ForSome (slice_get m.parties p) (λ party. IsParty z o party (call_of p past) (hold_of (table_of z o) p past))

-- What is promised of every run that stands at a machine.
abbrev pub ForRunAt : {T : Type 0} → Arithmetic T → Configuration T → (Object T → ℕ → List (Event T) → Type 0) → Type 0
ForRunAt {T} z m P = (o : Object T) (parties : ℕ) (past : List (Event T)) → StandsAt z o parties past m → P o parties past

-- the object is the run's
abbrev pub TellsObject : {T : Type 0} → Arithmetic T → Configuration T → Object T → Type 0
TellsObject z m object = ForRunAt z m (λ o parties past. object ≡ o)

-- the value is what the run's memory tells of the word
abbrev pub Tells : {T : Type 0} → Arithmetic T → Configuration T → Word → ℕ → Type 0
Tells z m word value = ForRunAt z m (λ o parties past. value ≡ word_in z o past word)

-- a word that the object does not have is 0
abbrev pub IsNoneWithout : {T : Type 0} → Arithmetic T → Configuration T → Word → ℕ → Type 0
IsNoneWithout z m word value = ForRunAt z m (λ o parties past. has_word o word ≡ false → value ≡ 0)

-- the count is that of the run's exchanges that failed, up to 2 ^ 64 - 1
abbrev pub TellsFailed : {T : Type 0} → Arithmetic T → Configuration T → ℕ → Type 0
TellsFailed z m count = ForRunAt z m (λ o parties past. count ≡ min (failures_in past) (2 ^ 64 - 1))

-- the hold is what the run tells that the party holds
abbrev pub TellsHold : {T : Type 0} → Arithmetic T → Configuration T → ℕ → Option HoldKind → Type 0
TellsHold z m party hold = ForRunAt z m (λ o parties past. hold ≡ hold_of (table_of z o) party past)

-- the party is where the run's call is, and has the run's hold; the run has no party that is none
abbrev pub IsPartyAfter : {T : Type 0} → Arithmetic T → Object T → ℕ → List (Event T) → ℕ → Option (Party T) → Type 0
IsPartyAfter z o parties past number (Some party) = IsParty z o party (call_of number past) (hold_of (table_of z o) number past)
IsPartyAfter z o parties past number None = parties ≤ number

abbrev pub TellsParty : {T : Type 0} → Arithmetic T → Configuration T → ℕ → Option (Party T) → Type 0
TellsParty z m number party = ForRunAt z m (λ o parties past. IsPartyAfter z o parties past number party)

-- the event is the one that the input gives after the run, and the run with it stands at the machine afterwards
abbrev pub Steps : {T : Type 0} → Arithmetic T → Configuration T → ℕ → Input T → Event T → Configuration T → Type 0
Steps z old party input event new = ForRunAt z old (λ o parties past. IsNext z o parties past party input event × StandsAt z o parties (event ∷ past) new)

-- the fault is the first that applies to the input after the run
abbrev pub RefusesStep : {T : Type 0} → Arithmetic T → Configuration T → ℕ → Input T → StepFault → Type 0
RefusesStep z old party input fault = ForRunAt z old (λ o parties past. fault_of z o parties past party input ≡ Some fault)

-- the headline holds after the event
abbrev pub KeepsHeadline : {T : Type 0} → Arithmetic T → Configuration T → Event T → Type 0
KeepsHeadline z old event = ForRunAt z old (λ o parties past. Headline z o (event ∷ past))

-- after this past the events are the run of the schedule, it stands at the machine, and the headline holds at every prefix
abbrev pub Continues : {T : Type 0} → Arithmetic T → Object T → ℕ → List (Event T) → List (ℕ × Input T) → List (Event T) → Configuration T → Type 0
Continues z o parties = ContinuesBy (λ past turn e. IsNext z o parties past turn.0 turn.1 e) (StandsAt z o parties) (Headline z o)

-- the whole schedule was played, whatever run stood at the machine before
abbrev pub Plays : {T : Type 0} → Arithmetic T → List (ℕ × Input T) → Configuration T → List (Event T) → Configuration T → Type 0
Plays z schedule old events new = ForRunAt z old (λ o parties past. Continues z o parties past schedule events new)

-- the schedule was played up to an input that the machine refused with this fault
abbrev pub PlaysUpTo : {T : Type 0} → Arithmetic T → Object T → ℕ → List (Event T) → List (ℕ × Input T) → List (Event T) → StepFault → Configuration T → Type 0
PlaysUpTo z o parties = ContinuesUpTo (λ past turn e. IsNext z o parties past turn.0 turn.1 e) (StandsAt z o parties) (Headline z o) (λ past turn. fault_of z o parties past turn.0 turn.1)

-- playing ended early: for want of memory before the first step, or at a refused input
abbrev pub Refuses : {T A : Type 0} → Arithmetic T → List (ℕ × Input T) → Configuration T → Configuration T → PlayFault T A → Type 0
Refuses z schedule old new PlayFault.Memory = new ≡ old
Refuses z schedule old new (PlayFault.Step done fault) = ForRunAt z old (λ o parties past. PlaysUpTo z o parties past schedule done.items fault new)
