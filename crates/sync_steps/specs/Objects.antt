-- What each object is: its places and its table of steps, its law, what it may be opened with, and the words and the calls that it has.
use Rattle.std.specs.Prelude.{ℕ, List, ◌<◌, ◌^◌, Bool, true, false}
use Rattle.sync_steps.specs.Names.{Call, Event, Object, Word, Arithmetic, IsValue, IsClosed, Table}
use Rattle.model_events.specs.Laws.{Keeps}
use Rattle.model_events.specs.declared.event.Wake.{Wake}
pub use Rattle.model_mutex.specs.declared.MutexPlace.{MutexPlace}
pub use Rattle.model_mutex.specs.Table.{mutex_table, is_free}
use Rattle.model_mutex.specs.Law.{MutexCause, MutexLaw}
pub use Rattle.model_spin.specs.declared.SpinPlace.{SpinPlace}
pub use Rattle.model_spin.specs.Table.{spin_table, spin_after}
use Rattle.model_spin.specs.Law.{SpinCause, SpinLaw}
pub use Rattle.model_semaphore.specs.declared.SemaphorePlace.{SemaphorePlace}
pub use Rattle.model_semaphore.specs.Table.{semaphore_table, semaphore_opening}
use Rattle.model_semaphore.specs.Law.{SemaphoreCause, SemaphoreLaw}
pub use Rattle.model_barrier.specs.declared.BarrierPlace.{BarrierPlace}
pub use Rattle.model_barrier.specs.Table.{barrier_table}
pub use Rattle.model_barrier.specs.Rounds.{epoch_of}
use Rattle.model_barrier.specs.Law.{BarrierCause, BarrierLaw}
pub use Rattle.model_rw_reader.specs.declared.RwReaderPlace.{RwReaderPlace}
pub use Rattle.model_rw_reader.specs.Table.{rw_reader_table, lets_readers_in as lets_readers_in_free}
use Rattle.model_rw_reader.specs.Law.{RwReaderCause, RwReaderLaw}
pub use Rattle.model_rw_writer.specs.declared.RwWriterPlace.{RwWriterPlace}
pub use Rattle.model_rw_writer.specs.Table.{rw_writer_table, lets_readers_in, lets_writer_in, lets_mark, rw_writer_after, rw_writer_intent, last_look}
use Rattle.model_rw_writer.specs.Law.{RwWriterCause, RwWriterLaw}
pub use Rattle.model_condvar.specs.declared.CondvarPlace.{CondvarPlace}
pub use Rattle.model_condvar.specs.Table.{condvar_table, condvar_after, condvar_intent}
pub use Rattle.model_condvar.specs.Law.{CondvarCause, CondvarLaw, refused_by}
pub use Rattle.model_once.specs.declared.OncePlace.{OncePlace}
pub use Rattle.model_once.specs.Table.{once_table, once_after}
use Rattle.model_once.specs.Law.{OnceCause, OnceLaw}
pub use Rattle.model_lazy.specs.declared.LazyPlace.{LazyPlace}
pub use Rattle.model_lazy.specs.Table.{lazy_table, lazy_after}
use Rattle.model_lazy.specs.Law.{LazyCause, LazyLaw}
pub use Rattle.model_atomic.specs.declared.AtomicPlace.{AtomicPlace}
pub use Rattle.model_atomic.specs.Table.{atomic_intent, atomic_after, atomic_chosen, atomic_table, atomic_opening}
use Rattle.model_atomic.specs.Law.{AtomicCause, AtomicLaw}

abbrev pub place_of : {T : Type 0} → Object T → Type 0
place_of Object.Mutex = MutexPlace
place_of Object.Spin = SpinPlace
place_of (Object.Semaphore initial) = SemaphorePlace
place_of (Object.Barrier n) = BarrierPlace
place_of Object.ReaderLock = RwReaderPlace
place_of Object.WriterLock = RwWriterPlace
place_of Object.Condvar = CondvarPlace
place_of Object.Once = OncePlace
place_of (Object.Lazy v) = LazyPlace
place_of {T} (Object.Atomic v) = AtomicPlace T

abbrev pub table_of : {T : Type 0} → Arithmetic T → (o : Object T) → Table T (place_of o)
table_of z Object.Mutex = mutex_table
table_of z Object.Spin = spin_table
table_of z (Object.Semaphore initial) = semaphore_table initial
table_of z (Object.Barrier n) = barrier_table n
table_of z Object.ReaderLock = rw_reader_table
table_of z Object.WriterLock = rw_writer_table
table_of z Object.Condvar = condvar_table
table_of z Object.Once = once_table
table_of z (Object.Lazy v) = lazy_table v
table_of z (Object.Atomic v) = atomic_table z v

-- What holds at every prefix of every run.

-- why a call of the object was refused, by the events up to its answer
abbrev pub CauseOf : {T : Type 0} → Object T → Call T → ℕ → List (Event T) → Type 0
CauseOf Object.Mutex = MutexCause
CauseOf Object.Spin = SpinCause
CauseOf (Object.Semaphore initial) = SemaphoreCause initial
CauseOf (Object.Barrier n) = BarrierCause n
CauseOf Object.ReaderLock = RwReaderCause
CauseOf Object.WriterLock = RwWriterCause
CauseOf Object.Condvar = CondvarCause
CauseOf Object.Once = OnceCause
CauseOf (Object.Lazy v) = LazyCause
CauseOf (Object.Atomic v) = AtomicCause

-- What each object keeps beside: no more permits are taken than given, a barrier's round is full before it is passed, a once's closure ends before any call tells
-- of it, every answer of a lazy value is its value, an atomic answers as one register, ..
abbrev pub LawOf : {T : Type 0} → Arithmetic T → Object T → List (Event T) → Type 0
LawOf z Object.Mutex = MutexLaw
LawOf z Object.Spin = SpinLaw
LawOf z (Object.Semaphore initial) = SemaphoreLaw initial
LawOf z (Object.Barrier n) = BarrierLaw n
LawOf z Object.ReaderLock = RwReaderLaw
LawOf z Object.WriterLock = RwWriterLaw
LawOf z Object.Condvar = CondvarLaw
LawOf z Object.Once = OnceLaw
LawOf z (Object.Lazy v) = LazyLaw v
LawOf z (Object.Atomic v) = AtomicLaw z v

-- *told*, *exclusive*, *cause*, and the object's law
abbrev pub Headline : {T : Type 0} → Arithmetic T → Object T → List (Event T) → Type 0
Headline z o past = Keeps (table_of z o) (CauseOf o) (LawOf z o) past

-- What it may be opened with, and its words and calls.

-- what an object is opened with is a value of its type; an atomic's type computes with its values, as every `AtomicInteger` does
abbrev pub IsObject : {T : Type 0} → Arithmetic T → Object T → Type 0
IsObject z Object.Mutex = Unit {0}
IsObject z Object.Spin = Unit {0}
IsObject z (Object.Semaphore initial) = initial < 2 ^ 64
IsObject z (Object.Barrier n) = n < 2 ^ 32
IsObject z Object.ReaderLock = Unit {0}
IsObject z Object.WriterLock = Unit {0}
IsObject z Object.Condvar = Unit {0}
IsObject z Object.Once = Unit {0}
IsObject z (Object.Lazy v) = IsValue z v
IsObject z (Object.Atomic v) = IsValue z v × IsClosed z

-- a mutex, a spin lock, a semaphore, a barrier, a once and a lazy value have one word; the others have more, or another
abbrev pub has_word : {T : Type 0} → Object T → Word → Bool
has_word o Word.State = true
has_word Object.WriterLock Word.Counter = true
has_word Object.Condvar Word.Waiters = true
has_word Object.Condvar Word.Value = true
has_word (Object.Atomic v) Word.Low = true
has_word (Object.Atomic v) Word.High = true
has_word o word = false

abbrev pub is_rw_call : {T : Type 0} → Call T → Bool
is_rw_call Call.ReadLock = true
is_rw_call Call.TryReadLock = true
is_rw_call Call.WriteLock = true
is_rw_call Call.TryWriteLock = true
is_rw_call Call.Unlock = true
is_rw_call other = false

abbrev pub is_register_call : {T : Type 0} → Call T → Bool
is_register_call Call.Load = true
is_register_call (Call.Store new) = true
is_register_call (Call.Swap new) = true
is_register_call (Call.CompareExchange current new) = true
is_register_call (Call.CompareExchangeWeak current new) = true
is_register_call (Call.FetchAdd x) = true
is_register_call (Call.FetchSub x) = true
is_register_call (Call.FetchAnd x) = true
is_register_call (Call.FetchOr x) = true
is_register_call (Call.FetchXor x) = true
is_register_call (Call.FetchNand x) = true
is_register_call (Call.FetchMax x) = true
is_register_call (Call.FetchMin x) = true
is_register_call Call.FetchUpdate = true
is_register_call other = false

-- The calls that an object has. A table that begins one more, or one less, is refused by `has_call` of `src/steps/place.rt`.
abbrev pub has_call : {T : Type 0} → Object T → Call T → Bool
has_call Object.Mutex Call.Lock = true
has_call Object.Mutex Call.TryLock = true
has_call Object.Mutex Call.Unlock = true
has_call Object.Spin Call.Lock = true
has_call Object.Spin Call.BlockingLock = true
has_call Object.Spin Call.TryLock = true
has_call Object.Spin Call.Unlock = true
has_call (Object.Semaphore initial) Call.Value = true
has_call (Object.Semaphore initial) (Call.Post n) = true
has_call (Object.Semaphore initial) Call.Wait = true
has_call (Object.Semaphore initial) Call.TryWait = true
has_call (Object.Barrier n) Call.Wait = true
has_call Object.ReaderLock call = is_rw_call call
has_call Object.WriterLock call = is_rw_call call
has_call Object.Condvar Call.Lock = true
has_call Object.Condvar Call.TryLock = true
has_call Object.Condvar Call.Unlock = true
has_call Object.Condvar Call.Wait = true
has_call Object.Condvar Call.NotifyOne = true
has_call Object.Condvar Call.NotifyAll = true
has_call Object.Once Call.CallOnce = true
has_call Object.Once Call.IsCompleted = true
has_call (Object.Lazy v) Call.Force = true
has_call (Object.Atomic v) call = is_register_call call
has_call o call = false

-- those that only a party with a hold may begin
abbrev pub wants_hold : {T : Type 0} → Object T → Call T → Bool
wants_hold Object.Mutex Call.Unlock = true
wants_hold Object.Spin Call.Unlock = true
wants_hold Object.ReaderLock Call.Unlock = true
wants_hold Object.WriterLock Call.Unlock = true
wants_hold Object.Condvar Call.Unlock = true
wants_hold Object.Condvar Call.Wait = true
wants_hold o call = false

-- The word that a wake of a call is of, which says who may be woken. An object with one word has no other to name.
abbrev pub woken_word : {T : Type 0} → Object T → Call T → Wake → Word
woken_word Object.WriterLock call Wake.One = Word.Counter
woken_word Object.Condvar Call.NotifyOne wake = Word.Value
woken_word Object.Condvar Call.NotifyAll wake = Word.Value
woken_word o call wake = Word.State
