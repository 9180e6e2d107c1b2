-- Where a machine's parties are: the code's places, as places of the object's table, and how often a step at each spins.
use Rattle.std.specs.Prelude.{◌≡◌, ℕ, Bool, true, List, [], ◌∷◌, Option, Some, None, ◌+◌, ◌-◌, ◌^◌, ◌==◌, min, unwrap_or, if◌then◌else◌}
use Rattle.sync_steps.specs.Names.{WaitAction, Call, Event, Object, Then, Wake, Word, HoldKind, After, Intent, Arithmetic, PendingCall, call_of, latest_outcome, stage_of, seen_by, within, is_sight, last_of, Table, Patience}
use Rattle.sync_steps.specs.declared.steps.place.Closure.{Closure}
use Rattle.sync_steps.specs.declared.steps.place.Doing.{Doing}
use Rattle.sync_steps.specs.declared.steps.place.Party.{Party}
use Rattle.sync_steps.specs.declared.steps.place.Place.{Place}
use Rattle.sync_steps.specs.Objects.{place_of, table_of, has_call, woken_word, MutexPlace, mutex_table, SpinPlace, spin_table, SemaphorePlace, semaphore_table, BarrierPlace, barrier_table, RwReaderPlace, rw_reader_table, RwWriterPlace, rw_writer_table, CondvarPlace, condvar_table, OncePlace, once_table, LazyPlace, lazy_table, AtomicPlace, atomic_intent, atomic_after, atomic_chosen, atomic_table, is_free, epoch_of, lets_readers_in_free, lets_readers_in, lets_writer_in, lets_mark}

-- the code's place for a place of the object's table
abbrev pub place_in : {T : Type 0} (o : Object T) → place_of o → Place T
place_in Object.Mutex place = Place.Mutex place
place_in Object.Spin place = Place.Spin place
place_in (Object.Semaphore initial) place = Place.Semaphore place
place_in (Object.Barrier n) place = Place.Barrier place
place_in Object.ReaderLock place = Place.RwReader place
place_in Object.WriterLock place = Place.RwWriter place
place_in Object.Condvar place = Place.Condvar place
place_in Object.Once place = Place.Once place
place_in (Object.Lazy v) place = Place.Lazy place v
place_in (Object.Atomic v) place = Place.Atomic place

-- the closure at which a call stands
abbrev pub closure_of : {T : Type 0} → Then T → Option Closure
closure_of (Then.Waits seen) = Some Closure.Wait
closure_of (Then.Chooses old) = Some Closure.Choice
closure_of other = None

-- what a party does is this call under way: it is at the place of its stage, and stands at the closure of its latest event
pub record IsDoing {T : Type 0} (z : Arithmetic T) (o : Object T) (doing : Doing T) (c : PendingCall T) : Type 0 where
  pub call_is : doing.call ≡ c.call
  pub place : (place : place_of o) × (place_in o place ≡ doing.place) × (stage_of (table_of z o) c ≡ Some place)
  pub stands_is : doing.stands ≡ closure_of (latest_outcome c.own)

-- a party does something exactly where it has a call under way
abbrev pub DoesCall : {T : Type 0} → Arithmetic T → Object T → Option (Doing T) → Option (PendingCall T) → Type 0
DoesCall z o None None = Unit {0}
DoesCall z o (Some doing) (Some c) = IsDoing z o doing c
DoesCall z o None (Some c) = ⊥
DoesCall z o (Some doing) None = ⊥

-- the party has this call under way and this hold
pub record IsParty {T : Type 0} (z : Arithmetic T) (o : Object T) (party : Party T) (pending : Option (PendingCall T)) (hold : Option HoldKind) : Type 0 where
  pub doing : DoesCall z o party.doing pending
  pub hold_is : party.hold ≡ hold

-- The rows by the code's places: what the functions of `src/steps/place.rt` answer.

abbrev pub map_place : {T P : Type 0} → (P → Place T) → Option P → Option (Place T)
map_place wrap None = None
map_place wrap (Some place) = Some (wrap place)

-- the table of an object, with what its places are in the code
abbrev pub at_object : {T R : Type 0} → Arithmetic T → ((P : Type 0) → Table T P → (P → Place T) → R) → Object T → R
at_object z k Object.Mutex = k MutexPlace mutex_table Place.Mutex
at_object z k Object.Spin = k SpinPlace spin_table Place.Spin
at_object z k (Object.Semaphore initial) = k SemaphorePlace (semaphore_table initial) Place.Semaphore
at_object z k (Object.Barrier n) = k BarrierPlace (barrier_table n) Place.Barrier
at_object z k Object.ReaderLock = k RwReaderPlace rw_reader_table Place.RwReader
at_object z k Object.WriterLock = k RwWriterPlace rw_writer_table Place.RwWriter
at_object z k Object.Condvar = k CondvarPlace condvar_table Place.Condvar
at_object z k Object.Once = k OncePlace once_table Place.Once
at_object z k (Object.Lazy v) = k LazyPlace (lazy_table v) (λ p. Place.Lazy p v)
at_object {T} z k (Object.Atomic v) = k (AtomicPlace T) (atomic_table z v) Place.Atomic

abbrev pub opening_at : {T : Type 0} → Arithmetic T → Object T → Word → ℕ
opening_at z o word = at_object z (λ P t wrap. t.opening word) o

abbrev pub begins_at : {T : Type 0} → Arithmetic T → Object T → Call T → Option (Place T)
begins_at z o call = at_object z (λ P t wrap. map_place wrap (t.begins call)) o

abbrev pub grant_at : {T : Type 0} → Arithmetic T → Object T → Call T → ℕ → ℕ → Option HoldKind
grant_at z o call from to = at_object z (λ P t wrap. t.grant call from to) o

abbrev pub needs_hold_at : {T : Type 0} → Arithmetic T → Object T → Call T → Bool
needs_hold_at z o call = at_object z (λ P t wrap. t.needs_hold call) o

-- what a table says of a place
pub record Rows (T P : Type 0) : Type 0 where
  pub intent : P → Option HoldKind → Intent T
  pub after : P → Option ℕ → After T P
  pub answered : P → WaitAction → P
  pub chosen : P → Option T → P

abbrev pub rows_in : {T P : Type 0} → Table T P → Rows T P
rows_in t = record { intent = t.intent; after = t.after; answered = t.answered; chosen = t.chosen }

-- the rows at a place of the code; they don't depend on what the object is opened with
abbrev pub at_rows : {T R : Type 0} → Arithmetic T → ((P : Type 0) → Rows T P → (P → Place T) → P → R) → Place T → R
at_rows z k (Place.Mutex place) = k MutexPlace (rows_in mutex_table) Place.Mutex place
at_rows z k (Place.Spin place) = k SpinPlace (rows_in spin_table) Place.Spin place
at_rows z k (Place.Semaphore place) = k SemaphorePlace (rows_in (semaphore_table 0)) Place.Semaphore place
at_rows z k (Place.Barrier place) = k BarrierPlace (rows_in (barrier_table 0)) Place.Barrier place
at_rows z k (Place.RwReader place) = k RwReaderPlace (rows_in rw_reader_table) Place.RwReader place
at_rows z k (Place.RwWriter place) = k RwWriterPlace (rows_in rw_writer_table) Place.RwWriter place
at_rows z k (Place.Condvar place) = k CondvarPlace (rows_in condvar_table) Place.Condvar place
at_rows z k (Place.Once place) = k OncePlace (rows_in once_table) Place.Once place
at_rows z k (Place.Lazy place v) = k LazyPlace (rows_in (lazy_table v)) (λ p. Place.Lazy p v) place
at_rows {T} z k (Place.Atomic place) = k (AtomicPlace T) (record { intent = atomic_intent; after = atomic_after z; answered = λ p action. p; chosen = atomic_chosen z }) Place.Atomic place

abbrev pub intent_at : {T : Type 0} → Arithmetic T → Place T → Option HoldKind → Intent T
intent_at z place hold = at_rows z (λ P rows wrap p. rows.intent p hold) place

abbrev pub after_at : {T : Type 0} → Arithmetic T → Place T → Option ℕ → After T (Place T)
after_at z place told = at_rows z (λ P rows wrap p. within wrap (rows.after p told)) place

abbrev pub answered_at : {T : Type 0} → Arithmetic T → Place T → WaitAction → Place T
answered_at z place action = at_rows z (λ P rows wrap p. wrap (rows.answered p action)) place

abbrev pub chosen_at : {T : Type 0} → Arithmetic T → Place T → Option T → Place T
chosen_at z place choice = at_rows z (λ P rows wrap p. wrap (rows.chosen p choice)) place

-- The word that a wait closure watches which was asked at a place, whose value it was told: a writer's of the writer-preferring lock watches the wake
-- counter, that of a `Wait` for a permit the permits, and every other the lock's word.
abbrev pub watched_word : {T : Type 0} → Object T → Place T → Word
watched_word Object.WriterLock (Place.RwWriter (RwWriterPlace.WriteLook patience)) = Word.Counter
watched_word Object.Condvar (Place.Condvar (CondvarPlace.Permit place)) = Word.Value
watched_word o place = Word.State

-- some call of the object wakes who waits at this word
abbrev pub IsWoken : {T : Type 0} → Object T → Word → Type 0
IsWoken {T} o word = (call : Call T) × (wake : Wake) × (has_call o call ≡ true) × (woken_word o call wake ≡ word)

-- a call's latest sight of a word told this
abbrev pub SawLast : {T : Type 0} → Word → List (Event T) → ℕ → Type 0
SawLast word own told = seen_by word (last_of (is_sight word) own) ≡ Some told

-- Where the latest event leaves a call at its wait closure, what that is told is what its call saw last of the word that it watches.
abbrev pub TellsWatched : {T : Type 0} → Arithmetic T → Object T → List (Event T) → Type 0
TellsWatched z o [] = Unit {0}
TellsWatched {T} z o (e ∷ past) =
    (told : ℕ) (c : PendingCall T) (place : place_of o) → e.then ≡ Then.Waits told → call_of e.party (e ∷ past) ≡ Some c → stage_of (table_of z o) c ≡ Some place →
    SawLast (watched_word o (place_in o place)) c.own told

-- How often a step whose party was told this leads to the same place with one more spin, if it makes one after the other.

abbrev pub spins_left : Patience → ℕ
spins_left patience = if patience.keep then 10000 - patience.spins else 0

abbrev pub mutex_spins : MutexPlace → Option ℕ → ℕ
mutex_spins (MutexPlace.Lock patience) told = if is_free told then 0 else spins_left patience
mutex_spins other told = 0

-- without end, but for what is counted
abbrev pub spin_spins : SpinPlace → Option ℕ → ℕ
spin_spins SpinPlace.Lock told = if is_free told then 0 else 2 ^ 64 - 1
spin_spins other told = 0

abbrev pub semaphore_spins : SemaphorePlace → ℕ → ℕ
semaphore_spins (SemaphorePlace.Look patience) found = if found == 0 then spins_left patience else 0
semaphore_spins other found = 0

abbrev pub barrier_spins : BarrierPlace → ℕ → ℕ
barrier_spins (BarrierPlace.Stay epoch spins) found = if epoch_of found == epoch then 10000 - spins else 0
barrier_spins other found = 0

abbrev pub rw_reader_spins : RwReaderPlace → ℕ → ℕ
rw_reader_spins (RwReaderPlace.ReadLook patience) found = if lets_readers_in_free found then 0 else spins_left patience
rw_reader_spins (RwReaderPlace.Write patience) found = if found == 0 then 0 else spins_left patience
rw_reader_spins other found = 0

abbrev pub writer_spins : Patience → ℕ → ℕ
writer_spins patience found = if lets_writer_in found then 0 else (if lets_mark found then 0 else spins_left patience)

abbrev pub rw_writer_spins : RwWriterPlace → ℕ → ℕ
rw_writer_spins (RwWriterPlace.ReadLook patience) found = if lets_readers_in found then 0 else spins_left patience
rw_writer_spins (RwWriterPlace.WriteLook patience) found = writer_spins patience found
rw_writer_spins other found = 0

abbrev pub condvar_spins : CondvarPlace → Option ℕ → ℕ
condvar_spins (CondvarPlace.Mutex place) told = mutex_spins place told
condvar_spins (CondvarPlace.Permit place) told = semaphore_spins place (unwrap_or told 0)
condvar_spins (CondvarPlace.Relock signalled place) told = mutex_spins place told
condvar_spins other told = 0

abbrev pub once_spins : OncePlace → ℕ → ℕ
once_spins OncePlace.Stay found = if found == 2 then 0 else 2 ^ 64 - 1
once_spins other found = 0

abbrev pub lazy_spins : LazyPlace → ℕ → ℕ
lazy_spins (LazyPlace.Once place) found = once_spins place found
lazy_spins other found = 0

abbrev pub spins_at : {T : Type 0} → Place T → Option ℕ → ℕ
spins_at (Place.Mutex place) told = mutex_spins place told
spins_at (Place.Spin place) told = spin_spins place told
spins_at (Place.Semaphore place) told = semaphore_spins place (unwrap_or told 0)
spins_at (Place.Barrier place) told = barrier_spins place (unwrap_or told 0)
spins_at (Place.RwReader place) told = rw_reader_spins place (unwrap_or told 0)
spins_at (Place.RwWriter place) told = rw_writer_spins place (unwrap_or told 0)
spins_at (Place.Condvar place) told = condvar_spins place told
spins_at (Place.Once place) told = once_spins place (unwrap_or told 0)
spins_at (Place.Lazy place v) told = lazy_spins place (unwrap_or told 0)
spins_at (Place.Atomic place) told = 0

-- The place after so many more spins; those of a spin lock and a once count none.

-- counted up to 2^64 - 1
abbrev pub more_spins : ℕ → ℕ → ℕ
more_spins n spins = min (spins + n) (2 ^ 64 - 1)

abbrev pub spun : ℕ → Patience → Patience
spun n patience = record { spins = more_spins n patience.spins; keep = patience.keep }

abbrev pub mutex_spun : ℕ → MutexPlace → MutexPlace
mutex_spun n (MutexPlace.Lock patience) = MutexPlace.Lock (spun n patience)
mutex_spun n other = other

abbrev pub semaphore_spun : ℕ → SemaphorePlace → SemaphorePlace
semaphore_spun n (SemaphorePlace.Look patience) = SemaphorePlace.Look (spun n patience)
semaphore_spun n other = other

abbrev pub barrier_spun : ℕ → BarrierPlace → BarrierPlace
barrier_spun n (BarrierPlace.Stay epoch spins) = BarrierPlace.Stay epoch (more_spins n spins)
barrier_spun n other = other

abbrev pub rw_reader_spun : ℕ → RwReaderPlace → RwReaderPlace
rw_reader_spun n (RwReaderPlace.ReadLook patience) = RwReaderPlace.ReadLook (spun n patience)
rw_reader_spun n (RwReaderPlace.Write patience) = RwReaderPlace.Write (spun n patience)
rw_reader_spun n other = other

abbrev pub rw_writer_spun : ℕ → RwWriterPlace → RwWriterPlace
rw_writer_spun n (RwWriterPlace.ReadLook patience) = RwWriterPlace.ReadLook (spun n patience)
rw_writer_spun n (RwWriterPlace.WriteLook patience) = RwWriterPlace.WriteLook (spun n patience)
rw_writer_spun n other = other

abbrev pub condvar_spun : ℕ → CondvarPlace → CondvarPlace
condvar_spun n (CondvarPlace.Mutex place) = CondvarPlace.Mutex (mutex_spun n place)
condvar_spun n (CondvarPlace.Permit place) = CondvarPlace.Permit (semaphore_spun n place)
condvar_spun n (CondvarPlace.Relock signalled place) = CondvarPlace.Relock signalled (mutex_spun n place)
condvar_spun n other = other

abbrev pub spun_at : {T : Type 0} → ℕ → Place T → Place T
spun_at n (Place.Mutex place) = Place.Mutex (mutex_spun n place)
spun_at n (Place.Spin place) = Place.Spin place
spun_at n (Place.Semaphore place) = Place.Semaphore (semaphore_spun n place)
spun_at n (Place.Barrier place) = Place.Barrier (barrier_spun n place)
spun_at n (Place.RwReader place) = Place.RwReader (rw_reader_spun n place)
spun_at n (Place.RwWriter place) = Place.RwWriter (rw_writer_spun n place)
spun_at n (Place.Condvar place) = Place.Condvar (condvar_spun n place)
spun_at n (Place.Once place) = Place.Once place
spun_at n (Place.Lazy place v) = Place.Lazy place v
spun_at n (Place.Atomic place) = Place.Atomic place
