-- What contracts see of a room, when a run stands at it, and what its calls promise.
use Rattle.std.specs.Prelude.{ℕ, List, ◌∷◌, ◌≡◌, ◌<◌, ◌≤◌, length, slice_get, replicate, Option, Some, None}
use Rattle.model_room.specs.Names.{Bor, Arithmetic, ContinuesBy, ContinuesUpTo, Input, Object, RoomEvent, RoomInput, RoomFault, RoomPlayFault}
use Rattle.sync_steps.specs.Machine.{Configuration}
use Rattle.sync_steps.specs.Machine as machines
use Rattle.model_room.specs.Runs.{events_of, seat_of, fault_of, IsNext, IsPast, EachKeeps}

-- the machines of several objects at a moment, and the object at which each party has its call
pub record Seating (T : Type 0) : Type 0 where
  pub machines : List (Configuration T)
  pub seats : List (Option ℕ)

-- the run of these events, newest first, ends where the room is
pub record StandsAt {T : Type 0} (z : Arithmetic T) (objects : List (Object T)) (parties : ℕ) (past : List (RoomEvent T)) (m : Seating T) : Type 0 where
  pub run : IsPast z objects parties past
  pub count : length m.machines ≡ length objects
  -- the events of each object stand at its machine
  pub each : (k : ℕ) → k < length objects → (o : Object T) → slice_get objects k ≡ Some o → (c : Configuration T) → slice_get m.machines k ≡ Some c → machines.StandsAt z o parties (events_of k past) c
  pub seat_count : length m.seats ≡ parties
  pub seats : (p : ℕ) → p < parties → slice_get m.seats p ≡ Some (seat_of p past)

abbrev pub ForRunAt : {T : Type 0} → Arithmetic T → Seating T → (List (Object T) → ℕ → List (RoomEvent T) → Type 0) → Type 0
ForRunAt {T} z m P = (objects : List (Object T)) (parties : ℕ) (past : List (RoomEvent T)) → StandsAt z objects parties past m → P objects parties past

-- the event is the one that the input gives after the run, and the run with it stands at the room afterwards
abbrev pub Steps : {T : Type 0} → Arithmetic T → Seating T → ℕ → ℕ → Input T → RoomEvent T → Seating T → Type 0
Steps z old party k input told new = ForRunAt z old (λ objects parties past. IsNext z objects parties past party k input told × StandsAt z objects parties (told ∷ past) new)

-- the fault is the first that applies to the input after the run
abbrev pub RefusesStep : {T : Type 0} → Arithmetic T → Seating T → ℕ → ℕ → Input T → RoomFault → Type 0
RefusesStep z old party k input fault = ForRunAt z old (λ objects parties past. fault_of z objects parties past party k input ≡ Some fault)

-- the headline of each object holds after the event
abbrev pub KeepsHeadlines : {T : Type 0} → Arithmetic T → Seating T → RoomEvent T → Type 0
KeepsHeadlines z old told = ForRunAt z old (λ objects parties past. EachKeeps z objects (told ∷ past))

-- what stands there is where that object's own events end; the run has no object that is none
abbrev pub IsMachineAfter : {T : Type 0} → Arithmetic T → List (Object T) → ℕ → List (RoomEvent T) → ℕ → Option (Bor (Configuration T)) → Type 0
IsMachineAfter z objects parties past k None = length objects ≤ k
IsMachineAfter {T} z objects parties past k (Some machine) = (o : Object T) × (slice_get objects k ≡ Some o) × machines.StandsAt z o parties (events_of k past) machine.now

abbrev pub TellsMachine : {T : Type 0} → Arithmetic T → Seating T → ℕ → Option (Bor (Configuration T)) → Type 0
TellsMachine z m k machine = ForRunAt z m (λ objects parties past. IsMachineAfter z objects parties past k machine)

-- where the party has its call under way, after the run
abbrev pub TellsSeat : {T : Type 0} → Arithmetic T → Seating T → ℕ → Option ℕ → Type 0
TellsSeat z m party seat = ForRunAt z m (λ objects parties past. seat ≡ seat_of party past)

-- after this past the events are the run of the schedule, it stands at the room, and the headline of each object holds at every prefix
abbrev pub Continues : {T : Type 0} → Arithmetic T → List (Object T) → ℕ → List (RoomEvent T) → List (RoomInput T) → List (RoomEvent T) → Seating T → Type 0
Continues z objects parties = ContinuesBy (λ past turn told. IsNext z objects parties past turn.party turn.object turn.input told) (StandsAt z objects parties) (EachKeeps z objects)

-- the whole schedule was played, whatever run stood at the room before
abbrev pub Plays : {T : Type 0} → Arithmetic T → List (RoomInput T) → Seating T → List (RoomEvent T) → Seating T → Type 0
Plays z schedule old events new = ForRunAt z old (λ objects parties past. Continues z objects parties past schedule events new)

-- the schedule was played up to an input that the room refused with this fault
abbrev pub PlaysUpTo : {T : Type 0} → Arithmetic T → List (Object T) → ℕ → List (RoomEvent T) → List (RoomInput T) → List (RoomEvent T) → RoomFault → Seating T → Type 0
PlaysUpTo z objects parties =
    ContinuesUpTo (λ past turn told. IsNext z objects parties past turn.party turn.object turn.input told) (StandsAt z objects parties) (EachKeeps z objects) (λ past turn. fault_of z objects parties past turn.party turn.object turn.input)

-- playing ended early: for want of memory before the first step, or at a refused input
abbrev pub Refuses : {T A : Type 0} → Arithmetic T → List (RoomInput T) → Seating T → Seating T → RoomPlayFault T A → Type 0
Refuses z schedule old new RoomPlayFault.Memory = new ≡ old
Refuses z schedule old new (RoomPlayFault.Step done fault) = ForRunAt z old (λ objects parties past. PlaysUpTo z objects parties past schedule done.items fault new)

-- so many steps of a party at an object
abbrev pub steps_of : {T : Type 0} → ℕ → ℕ → ℕ → List (RoomInput T)
steps_of party k times = replicate times (record { party = party; object = k; input = Input.Go })

-- So many steps of the party were played at the object, whatever run stood at the room before, and each gave this event.
abbrev pub Strides : {T : Type 0} → Arithmetic T → Seating T → ℕ → ℕ → RoomEvent T → ℕ → Seating T → Type 0
Strides z old party k told times new = Plays z (steps_of party k times) old (replicate times told) new
