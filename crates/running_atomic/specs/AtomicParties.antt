-- The party of the model that a pass of an atomic is, and how its calls go.
use Rattle.std.specs.Prelude.{◌≡◌, ℕ, false, not, List, Option, Some, None}
use Rattle.running_atomic.specs.Names.{Call, Answer, Event, HoldKind, After, Arithmetic, hold_fault, IsPast, AtomicPlace, atomic_table, atomic_begins, atomic_grant, puts, inside, knows, RegisterAct, register_after, acts_of_run, ends_at_look, choice_for, Slot, Parties, slot_at, all_of, events_of, Matches, Coming, ComesBy, IsAt, Leads, HasEnded, Then}
use Rattle.running_atomic.specs.AtomicModel.{atomic_model}

-- a call that takes the lock for writing
pub record Writes {T : Type 0} (z : Arithmetic T) (v : T) (call : Call T) : Type 0 where
  pub begins : atomic_begins call ≡ Some (AtomicPlace.Take call)
  pub grants : atomic_grant call ≡ Some HoldKind.Write
  pub free : hold_fault (atomic_table z v) call None ≡ None

-- it has no choice, as a `FetchUpdate` has
abbrev pub AsksNobody : {T : Type 0} → Call T → Type 0
AsksNobody call = choice_for call (Some None) ≡ None

-- and reads the value, once it has the lock
abbrev pub Reads : {T : Type 0} → Arithmetic T → Call T → Type 0
Reads z call = inside z call ≡ AtomicPlace.Low call

-- it puts a new value in the place of the old one, and then answers so
abbrev pub Puts : {T : Type 0} → Arithmetic T → Call T → T → T → Answer T → Type 0
Puts z call old new answer = knows z call old ≡ After.At (puts z new answer)

-- it goes on once it knows the value, whatever that is
abbrev pub GoesOnKnowing : {T : Type 0} → Arithmetic T → Call T → Type 0
GoesOnKnowing {T} z call = (old : T) → ends_at_look z call None old ≡ false

-- it goes on where the value is the one compared with, and acts where it is another
abbrev pub ActsAtOther : {T : Type 0} → Arithmetic T → Call T → T → Type 0
ActsAtOther {T} z call current = (old : T) → ends_at_look z call None old ≡ not (z.same old current)

module _ {T : Type 0} (z : Arithmetic T) (v : T) where
  -- the call goes on at this place
  abbrev pub IsNext : Call T → AtomicPlace T → Option HoldKind → List (Slot T) → Parties T → Type 0
  IsNext call place hold done p = IsAt (atomic_model z v) call place Then.GoesOn hold done p

  -- the call has the lock for writing, knows the old value, and goes on as that tells
  abbrev pub Knows : Call T → T → List (Slot T) → Parties T → Type 0
  Knows call old done p = Leads (atomic_model z v) call (knows z call old) (Some HoldKind.Write) done p

  -- a call comes so to where it puts this value
  abbrev pub ComesToPut : Coming T → Call T → T → Answer T → List (Slot T) → Parties T → Type 0
  ComesToPut coming call new answer done p = ComesBy (atomic_model z v) coming call (puts z new answer) (Some HoldKind.Write) done p

  abbrev pub MayPut : Coming T → Call T → T → Parties T → Type 0
  MayPut coming call new p = (answer : Answer T) × (done : List (Slot T)) × ComesToPut coming call new answer done p

  -- the call is at its load of the high word, and has read this low one
  pub record IsAtHigh (call : Call T) (low : ℕ) (p : Parties T) : Type 0 where
    pub hold : Option HoldKind
    pub done : List (Slot T)
    pub at : IsNext call (AtomicPlace.High call low) hold done p

  -- a call is there, and goes on after it
  pub record IsAtLook (p : Parties T) : Type 0 where
    pub call : Call T
    pub low : ℕ
    pub at : IsAtHigh call low p
    pub goes_on : GoesOnKnowing z call

  -- a `FetchUpdate` whose closure has chosen nothing comes so to its second load of the high word
  pub record ComesAgain (coming : Coming T) (p : Parties T) : Type 0 where
    pub old : T
    pub done : List (Slot T)
    pub comes : ComesBy (atomic_model z v) coming Call.FetchUpdate (AtomicPlace.Again old) (Some HoldKind.Write) done p

  -- the call is at its store of the high word
  pub record IsAtPutHigh (call : Call T) (high : ℕ) (p : Parties T) : Type 0 where
    pub answer : Answer T
    pub done : List (Slot T)
    pub at : IsNext call (AtomicPlace.PutHigh high answer) (Some HoldKind.Write) done p

  -- and has put it, left the lock and answered
  abbrev pub HasPut : Coming T → T → Parties T → Parties T → Type 0
  HasPut coming new p q = (call : Call T) (answer : Answer T) (done : List (Slot T)) → ComesToPut coming call new answer done p → HasEnded (atomic_model z v) call answer None done q

  -- a call that knew the old value has left the lock, and answered so
  abbrev pub HasReplaced : Call T → T → Answer T → Parties T → Parties T → Type 0
  HasReplaced call old answer p q = (done : List (Slot T)) → Knows call old done p → HasEnded (atomic_model z v) call answer None done q

  -- There is a run in which no other parties are than these, each with all events that it has made. Its acts are these, one for one and in
  -- this order, and this value is the register's after it.
  pub record StandsAtRun (p : Parties T) (history : List (RegisterAct T)) (value : T) : Type 0 where
    pub parties : ℕ
    pub past : List (Event T)
    pub run : IsPast z (atomic_table z v) parties past
    pub each : (q : ℕ) → Matches (slot_at q (all_of p)) (events_of q past)
    pub acts_are : acts_of_run z past ≡ history
    pub value_is : value ≡ register_after z v past
