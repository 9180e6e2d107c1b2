-- What a reader-preferring lock keeps at every prefix of every run: one writer or only readers, which its word counts, a cause for each
-- refusal, and when a call asks its wait closure.
use Rattle.std.specs.Prelude.{◌≡◌, ℕ, ◌+◌, ◌-◌, ◌%◌, ◌^◌, ◌<◌, ◌==◌, nat_lt, ◌↔◌, ◌⊎◌, Bool, true, false, not, List, [], ◌∷◌, Option, Some, None, MatchOption, if◌then◌else◌}
use Rattle.model_rw_reader.specs.Names.{Word, Wake, Call, Act, Answer, Then, Event, HoldKind, Hold, call_of, holds_of, word_in, reads_in, writes_in, AnswersByHold, is_step, is_sight, AtLastSight, HasAborted, HasMissed, spins_in, last_of, StepsAs, refused_waiting, EndsWithin, gives_up, reader_looked, ReadsIn, WritesIn, SpinCount, sight_at, whole_call, Waiting, WaitsAs, IsLocked, Keeps}
use Rattle.model_rw_reader.specs.Table.{rw_reader_table}

-- The word and the holds.

-- a reader may enter, in numbers: no test is the table's, which would turn with it
abbrev pub may_read : ℕ → Bool
may_read word = nat_lt word (2 ^ 64 - 2)

-- the word is the number of read holds, and there is no other
pub record IsRead (w : ℕ) (holds : List Hold) : Type 0 where
  pub counts : w ≡ reads_in holds
  pub unwritten : writes_in holds ≡ 0
  pub fits : w < 2 ^ 64 - 1

-- the word is 2^64 - 1, and one party has the one hold, for writing
pub record IsWritten (w : ℕ) (holds : List Hold) : Type 0 where
  pub is_full : w ≡ 2 ^ 64 - 1
  pub writer : ℕ
  pub alone : holds ≡ (writer, HoldKind.Write) ∷ []

abbrev pub CountsHolds : ℕ → List Hold → Type 0
CountsHolds w holds = IsRead w holds ⊎ IsWritten w holds

-- Why a call is refused.

-- no reader may enter: a write hold stands, or 2^64 - 2 read holds
abbrev pub IsShut : {T : Type 0} → List (Event T) → Type 0
IsShut past = (0 < writes_in (holds_of rw_reader_table past)) ⊎ (reads_in (holds_of rw_reader_table past) ≡ 2 ^ 64 - 2)

-- `TryReadLock`: no reader might enter at its last sight, or another party wrote the word between its two sights. `TryWriteLock`: a hold
-- stood at its last sight. `ReadLock`, `WriteLock`: the first of these, and their own closure had answered Abort before that sight.
abbrev pub RwReaderCause : {T : Type 0} → Call T → ℕ → List (Event T) → Type 0
RwReaderCause Call.TryReadLock party events = AtLastSight Word.State IsShut party events ⊎ HasMissed Word.State party events
RwReaderCause Call.ReadLock party events = AtLastSight Word.State (λ before. HasAborted party before × IsShut before) party events
RwReaderCause Call.TryWriteLock party events = AtLastSight Word.State (IsLocked rw_reader_table) party events
RwReaderCause Call.WriteLock party events = AtLastSight Word.State (λ before. HasAborted party before × IsLocked rw_reader_table before) party events
RwReaderCause other party events = ⊥

-- Exact: the event in which a `TryWriteLock` sees the word grants the lock exactly where there was no hold before it.
abbrev pub IsExactGrant : {T : Type 0} → List (Event T) → Type 0
IsExactGrant [] = Unit {0}
IsExactGrant (e ∷ past) =
    MatchOption (call_of e.party past) (Unit {0})
    (λ c. c.call ≡ Call.TryWriteLock → is_sight Word.State e.act ≡ true → ((e.then ≡ Then.Answers Answer.Success) ↔ (holds_of rw_reader_table past ≡ [])))

-- a try in vain: a look at which no reader may enter, or a writer's exchange that failed
abbrev pub is_in_vain : {T : Type 0} → Act T → Bool
is_in_vain (Act.Load word seen) = not (may_read seen)
is_in_vain (Act.Exchange word from to found false) = if to == 2 ^ 64 - 1 then true else not (may_read found)
is_in_vain act = false

-- the spins of a `ReadLock` or a `WriteLock`; no other call spins, nor asks
abbrev pub lock_spins : {T : Type 0} → SpinCount T
lock_spins Call.ReadLock own = spins_in is_in_vain own
lock_spins Call.WriteLock own = spins_in is_in_vain own
lock_spins other own = 0

-- what it does in vain and then goes on by itself: of a `WriteLock` each step, whatever it is
abbrev pub steps_in_vain : {T : Type 0} → SpinCount T
steps_in_vain Call.WriteLock own = spins_in is_step own
steps_in_vain other own = lock_spins other own

-- how they wait
abbrev pub rw_reader_waiting : {T : Type 0} → Waiting T
rw_reader_waiting = record { spins = lock_spins; goes_on = steps_in_vain; refusing = sight_at Word.State; wait = whole_call }

-- what an `Unlock` has done once it ends, newest first: it has subtracted 1 from the word, or stored 0 there, and has then woken one
abbrev pub HasUnlocked : {T : Type 0} → List (Act T) → Type 0
HasUnlocked (Act.Woke Wake.One ∷ Act.Add Word.State old put ∷ []) = put ≡ (old + (2 ^ 64 - 1)) % 2 ^ 64
HasUnlocked (Act.Woke Wake.One ∷ Act.Store Word.State put ∷ []) = put ≡ 0
HasUnlocked done = ⊥

-- What a call does next, by its own steps so far, and how it is left by what that tells.

-- a release takes 1 from the word, or stores 0, and leaves its call so
abbrev pub Releases : {T : Type 0} → Then T → Act T → Then T → Type 0
Releases left (Act.Add Word.State old put) outcome = (put ≡ (old + (2 ^ 64 - 1)) % 2 ^ 64) × (outcome ≡ left)
Releases left (Act.Store Word.State put) outcome = (put ≡ 0) × (outcome ≡ left)
Releases left act outcome = ⊥

-- a refused call with a wait closure, which is told the value seen
abbrev pub left_refused : {T : Type 0} → List (Event T) → ℕ → Then T
left_refused own v = refused_waiting own (spins_in is_in_vain own) v

-- the next step of each call; no other has one
abbrev pub RwReaderStep : {T : Type 0} → Call T → List (Event T) → Act T → Then T → Type 0
RwReaderStep Call.TryReadLock own act outcome = ReadsIn may_read 1 gives_up gives_up own act outcome
RwReaderStep Call.ReadLock own act outcome = ReadsIn may_read 1 (left_refused own) (reader_looked may_read (left_refused own)) own act outcome
RwReaderStep Call.TryWriteLock own act outcome = (last_of is_step own ≡ None) × WritesIn 0 gives_up act outcome
RwReaderStep Call.WriteLock own act outcome = WritesIn 0 (left_refused own) act outcome
RwReaderStep Call.Unlock own act outcome = MatchOption (last_of is_step own) (Releases Then.GoesOn act outcome) (λ before. (act ≡ Act.Woke Wake.One) × (outcome ≡ Then.Answers Answer.Done))
RwReaderStep other own act outcome = ⊥

-- how many steps a call makes that waits for nobody
abbrev pub rw_reader_most : {T : Type 0} → Call T → Option ℕ
rw_reader_most Call.TryReadLock = Some 2
rw_reader_most Call.TryWriteLock = Some 1
rw_reader_most Call.Unlock = Some 2
rw_reader_most other = None

-- What a reader-preferring lock keeps beside what every object does.
pub record RwReaderLaw {T : Type 0} (past : List (Event T)) : Type 0 where
  -- the word is the number of read holds, or 2^64 - 1 with one write hold and no other
  pub counts : CountsHolds (word_in rw_reader_table past Word.State) (holds_of rw_reader_table past)
  -- `TryWriteLock` is granted exactly where nobody holds the lock
  pub exact : IsExactGrant past
  -- a locking call answers `Success` with the hold of its kind, `Interrupted` with none; an `Unlock` ends with `Done`, freed and woken
  pub answers : AnswersByHold rw_reader_table HasUnlocked past
  -- a `ReadLock` or a `WriteLock` asks its closure after 10000 spins, which are tries in vain, and tells it the value seen
  pub waits : WaitsAs rw_reader_waiting past
  -- each step is the one that follows its call's own, and leaves it by what it tells
  pub steps : StepsAs RwReaderStep past
  -- a call that waits for nobody makes so many steps at most, and answers with the last
  pub within : EndsWithin rw_reader_most past

abbrev pub KeepsRwReader : {T : Type 0} → List (Event T) → Type 0
KeepsRwReader past = Keeps rw_reader_table RwReaderCause RwReaderLaw past
