-- Runs: the events of a schedule, one for each input, in order.
use Rattle.std.specs.Prelude.{ℕ, List, [], ◌∷◌, ◌≡◌, length, take, slice_get, Option, Some}
use Rattle.model_events.specs.Types.{Event, Input}
use Rattle.model_events.specs.Arithmetic.{Arithmetic}
use Rattle.model_events.specs.Tables.{Table}
use Rattle.model_events.specs.Moves.{IsNext}

-- the events are those of some schedule, newest first
abbrev pub IsPast : {T P : Type 0} → Arithmetic T → Table T P → ℕ → List (Event T) → Type 0
IsPast z t parties [] = Unit {0}
IsPast {T} z t parties (e ∷ past) = ((input : Input T) × IsNext z t parties past e.party input e) × IsPast z t parties past

-- The rest is of one object as of several: what comes next is a parameter.

-- after the past, the events are those of the schedule: one for each input, in order
abbrev pub IsRunBy : {E I : Type 0} → (List E → I → E → Type 0) → List E → List I → List E → Type 0
IsRunBy Next past [] [] = Unit {0}
IsRunBy Next past (input ∷ schedule) (e ∷ events) = Next past input e × IsRunBy Next (e ∷ past) schedule events
IsRunBy Next past [] (e ∷ events) = ⊥
IsRunBy Next past (input ∷ schedule) [] = ⊥

-- the past after further events
abbrev pub after : {E : Type 0} → List E → List E → List E
after [] past = past
after (e ∷ events) past = after events (e ∷ past)

-- a fact of the past holds before the events, after each of them and so after all
abbrev pub AtEveryPrefix : {E : Type 0} → (List E → Type 0) → List E → List E → Type 0
AtEveryPrefix P past [] = P past
AtEveryPrefix P past (e ∷ events) = P past × AtEveryPrefix P (e ∷ past) events

-- after this past the events are the run of the schedule, it stands at the machine, and the fact holds at every prefix
pub record ContinuesBy {E I M : Type 0} (Next : List E → I → E → Type 0) (Stands : List E → M → Type 0) (Holds : List E → Type 0) (past : List E) (schedule : List I) (events : List E) (new : M) : Type 0 where
  pub run : IsRunBy Next past schedule events
  pub stands : Stands (after events past) new
  pub prefixes : AtEveryPrefix Holds past events

-- the schedule was played up to an input that was refused with this fault
pub record ContinuesUpTo {E I M F : Type 0} (Next : List E → I → E → Type 0) (Stands : List E → M → Type 0) (Holds : List E → Type 0) (fault_of : List E → I → Option F) (past : List E) (schedule : List I) (events : List E) (fault : F) (new : M) : Type 0 where
  pub before : ContinuesBy Next Stands Holds past (take (length events) schedule) events new
  pub input : I
  pub refused : slice_get schedule (length events) ≡ Some input
  pub fault_is : fault_of (after events past) input ≡ Some fault
