-- Runs of several objects with parties that they share: each event is the next of its own object, given that object's events alone.
use Rattle.std.specs.Prelude.{ℕ, List, [], ◌∷◌, ◌≡◌, ◌==◌, nat_lt, not, slice_get, Option, Some, None, is_some, Bool, true, false, if◌then◌else◌}
use Rattle.model_room.specs.Names.{ForSome, Arithmetic, PendingCall, IsRunBy, call_of, Event, Input, Object, StepFault, Then, IsObject, Headline, RoomEvent, RoomInput, RoomFault}
use Rattle.sync_steps.specs.Runs as steps

-- the events of one object, told apart
abbrev pub events_of : {T : Type 0} → ℕ → List (RoomEvent T) → List (Event T)
events_of k [] = []
events_of k (told ∷ past) = if told.object == k then told.event ∷ events_of k past else events_of k past

-- The object at which a party has a call under way: that of its latest event, unless it was answered there.

abbrev pub is_answer : {T : Type 0} → Then T → Bool
is_answer (Then.Answers answer) = true
is_answer other = false

abbrev pub seat_left : {T : Type 0} → ℕ → Then T → Option ℕ
seat_left k outcome = if is_answer outcome then None else Some k

abbrev pub seat_after : {T : Type 0} → RoomEvent T → Option ℕ
seat_after told = seat_left told.object told.event.then

abbrev pub seat_of : {T : Type 0} → ℕ → List (RoomEvent T) → Option ℕ
seat_of party [] = None
seat_of party (told ∷ past) = if told.event.party == party then seat_after told else seat_of party past

abbrev pub sits_at : ℕ → Option ℕ → Bool
sits_at k None = false
sits_at k (Some j) = j == k

abbrev pub sits_elsewhere : ℕ → Option ℕ → Bool
sits_elsewhere k None = false
sits_elsewhere k (Some j) = not (j == k)

-- a call begins only where its party has none under way at another object
abbrev pub begins_elsewhere : {T : Type 0} → Input T → ℕ → Option ℕ → Bool
begins_elsewhere (Input.Begin call) k seat = sits_elsewhere k seat
begins_elsewhere input k seat = false

-- The fault of an input of a party at an object, if it has one: the first that applies.

abbrev pub at_step : Option StepFault → Option RoomFault
at_step None = None
at_step (Some fault) = Some (RoomFault.Step fault)

abbrev pub fault_there : {T : Type 0} → Arithmetic T → Option (Object T) → ℕ → List (RoomEvent T) → ℕ → ℕ → Input T → Option RoomFault
fault_there z None parties past party k input = Some RoomFault.NoObject
fault_there z (Some o) parties past party k input =
    if nat_lt party parties
    then (if begins_elsewhere input k (seat_of party past) then Some (RoomFault.Step StepFault.Busy) else at_step (steps.fault_of z o parties (events_of k past) party input))
    else Some (RoomFault.Step StepFault.NoParty)

abbrev pub fault_of : {T : Type 0} → Arithmetic T → List (Object T) → ℕ → List (RoomEvent T) → ℕ → ℕ → Input T → Option RoomFault
fault_of z objects parties past party k input = fault_there z (slice_get objects k) parties past party k input

-- after these events this event is the one that the input of the party gives at the object
pub record IsNext {T : Type 0} (z : Arithmetic T) (objects : List (Object T)) (parties : ℕ) (past : List (RoomEvent T)) (party k : ℕ) (input : Input T) (told : RoomEvent T) : Type 0 where
  pub object_is : told.object ≡ k
  -- it is one of the objects
  pub of : Object T
  pub there : slice_get objects k ≡ Some of
  -- the party begins nothing while it has a call under way elsewhere
  pub free : begins_elsewhere input k (seat_of party past) ≡ false
  -- it is what comes next there, by that object's events alone
  pub next : steps.IsNext z of parties (events_of k past) party input told.event

abbrev pub IsPlayed : {T : Type 0} → Arithmetic T → List (Object T) → ℕ → List (RoomEvent T) → Type 0
IsPlayed z objects parties [] = Unit {0}
IsPlayed {T} z objects parties (told ∷ past) = ((input : Input T) × IsNext z objects parties past told.event.party told.object input told) × IsPlayed z objects parties past

-- what each object is opened with is a value of its type
abbrev pub AreObjects : {T : Type 0} → Arithmetic T → List (Object T) → Type 0
AreObjects z objects = (k : ℕ) → ForSome (slice_get objects k) (IsObject z)

-- the events are those of some schedule, newest first
abbrev pub IsPast : {T : Type 0} → Arithmetic T → List (Object T) → ℕ → List (RoomEvent T) → Type 0
IsPast z objects parties past = AreObjects z objects × IsPlayed z objects parties past

-- after the past, the events are those of the schedule: one for each input, in order
abbrev pub IsRun : {T : Type 0} → Arithmetic T → List (Object T) → ℕ → List (RoomEvent T) → List (RoomInput T) → List (RoomEvent T) → Type 0
IsRun z objects parties past schedule events = IsRunBy (λ past turn told. IsNext z objects parties past turn.party turn.object turn.input told) past schedule events

-- The laws.

-- the events of each object are a run of its table
abbrev pub EachRuns : {T : Type 0} → Arithmetic T → List (Object T) → ℕ → List (RoomEvent T) → Type 0
EachRuns z objects parties past = (k : ℕ) → ForSome (slice_get objects k) (λ o. steps.IsPast z o parties (events_of k past))

-- so what holds of every run of an object holds of its events
abbrev pub EachKeeps : {T : Type 0} → Arithmetic T → List (Object T) → List (RoomEvent T) → Type 0
EachKeeps z objects past = (k : ℕ) → ForSome (slice_get objects k) (λ o. Headline z o (events_of k past))

-- a party has a call under way at the object where it sits, and at no other
abbrev pub SitsWhereItCalls : {T : Type 0} → List (RoomEvent T) → Type 0
SitsWhereItCalls past = (party k : ℕ) → is_some (call_of party (events_of k past)) ≡ sits_at k (seat_of party past)

-- a party has at most one call under way
abbrev pub CallsAtOne : {T : Type 0} → List (RoomEvent T) → Type 0
CallsAtOne past = (party j k : ℕ) → is_some (call_of party (events_of j past)) ≡ true → is_some (call_of party (events_of k past)) ≡ true → j ≡ k

-- The events of all objects, in order. What one party's calls did can be read off these: of the objects only one has its call.

abbrev pub all_of : {T : Type 0} → List (RoomEvent T) → List (Event T)
all_of [] = []
all_of (told ∷ past) = told.event ∷ all_of past

abbrev pub call_at : {T : Type 0} → List (RoomEvent T) → ℕ → Option ℕ → Option (PendingCall T)
call_at past party None = None
call_at past party (Some k) = call_of party (events_of k past)

-- the call that a party has under way among all events is the one at the object where it sits
abbrev pub CallsAsOne : {T : Type 0} → List (RoomEvent T) → Type 0
CallsAsOne past = (party : ℕ) → call_of party (all_of past) ≡ call_at past party (seat_of party past)
