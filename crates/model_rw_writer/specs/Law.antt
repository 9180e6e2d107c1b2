-- What a writer-preferring lock keeps at every prefix of every run: one writer or only readers, which its word counts beside the mark; a mark
-- of a call that is under way, which keeps readers out; a cause for each refusal; and when a wait closure is asked, and what it is told.
use Rattle.std.specs.Prelude.{◌≡◌, ◌≢◌, ℕ, ◌+◌, ◌*◌, ◌-◌, ◌%◌, ◌^◌, ◌<◌, ◌==◌, nat_lt, ◌↔◌, ◌⊎◌, ◌&&◌, ◌||◌, not, Bool, true, false, List, [], ◌∷◌, Option, Some, None, MatchBool, MatchOption, if◌then◌else◌}
use Rattle.model_rw_writer.specs.Names.{Word, Wake, Call, Act, Answer, Then, Event, HoldKind, Hold, call_of, holds_of, word_in, is_failure, reads_in, writes_in, acts_of, AnswersByHold, is_step, is_sight, is_beginning, AtLastSight, HasAborted, HasMissed, OtherWroteSinceSight, sight_of, goes_on, stands_at_wait, spins_in, last_of, keeps_asking, StepsAs, refused_waiting, EndsWithin, step_before, Loads, Exchanges, gives_up, reader_looked, ReadsIn, WritesIn, SpinCount, but_last_try, Refusing, whole_call, Waiting, WaitsAs, IsLocked, Keeps}
use Rattle.model_rw_writer.specs.Table.{rw_writer_table}
use Rattle.model_rw_writer.specs.Marks.{is_one_more, setter_of, is_marked_after, has_marked}
use Rattle.model_rw_writer.specs.Debts.{loads_count, is_blocked_after, NoCountIsLost, PaysNext, ReadersAreWoken, CounterCountsAdds}

-- What the word lets a call do, in numbers: no test is the table's, which would turn with it.

abbrev pub may_read : ℕ → Bool
may_read word = not (word % 2 == 1) && nat_lt word (2 ^ 64 - 4)

abbrev pub may_write : ℕ → Bool
may_write word = nat_lt word 2

abbrev pub may_mark : ℕ → Bool
may_mark word = not (word % 2 == 1) && not (word == 2 ^ 64 - 2)

abbrev pub has_mark : ℕ → Bool
has_mark word = (word % 2 == 1) && not (word == 2 ^ 64 - 1)

-- a write hold stands, or the mark is set beside a read hold
abbrev pub has_block : ℕ → Bool
has_block word = (word % 2 == 1) && nat_lt 1 word

-- The word, the holds and the mark.

-- the word is twice the number of read holds, and one more where the mark is set; there is no other hold
pub record IsRead (w : ℕ) (holds : List Hold) (marked : Bool) : Type 0 where
  pub counts : w ≡ 2 * reads_in holds + (if marked then 1 else 0)
  pub unwritten : writes_in holds ≡ 0
  pub fits : reads_in holds < 2 ^ 63 - 1

-- the word is 2^64 - 1, and one party has the one hold, for writing; the mark is not set
pub record IsWritten (w : ℕ) (holds : List Hold) (marked : Bool) : Type 0 where
  pub is_full : w ≡ 2 ^ 64 - 1
  pub writer : ℕ
  pub alone : holds ≡ (writer, HoldKind.Write) ∷ []
  pub unmarked : marked ≡ false

abbrev pub CountsHolds : ℕ → List Hold → Bool → Type 0
CountsHolds w holds marked = IsRead w holds marked ⊎ IsWritten w holds marked

-- The mark.

-- the call under way of the party has set the mark
abbrev pub IsSetter : {T : Type 0} → ℕ → List (Event T) → Type 0
IsSetter party past = MatchOption (call_of party past) ⊥ (λ c. (c.call ≡ Call.WriteLock) × (has_marked c.own ≡ true))

-- where the mark is set, the call that set it last is under way
abbrev pub SetterIsUnderWay : {T : Type 0} → List (Event T) → Type 0
SetterIsUnderWay past = MatchOption (setter_of past) (Unit {0}) (λ party. IsSetter party past)

-- the latest event granted a read hold
abbrev pub GrantsRead : {T : Type 0} → List (Event T) → Type 0
GrantsRead [] = ⊥
GrantsRead (e ∷ past) = reads_in (holds_of rw_writer_table past) < reads_in (holds_of rw_writer_table (e ∷ past))

-- a read hold is granted only where the mark was not set before it
abbrev pub MarkKeepsReadersOut : {T : Type 0} → List (Event T) → Type 0
MarkKeepsReadersOut [] = Unit {0}
MarkKeepsReadersOut (e ∷ past) = GrantsRead (e ∷ past) → is_marked_after past ≡ false

-- Why a call is refused.

-- no reader may enter: a write hold stands, the mark is set, or 2^63 - 2 read holds stand
abbrev pub IsShut : {T : Type 0} → List (Event T) → Type 0
IsShut past = (0 < writes_in (holds_of rw_writer_table past)) ⊎ ((is_marked_after past ≡ true) ⊎ (reads_in (holds_of rw_writer_table past) ≡ 2 ^ 63 - 2))

-- a hold stands, or the mark is set
abbrev pub IsTaken : {T : Type 0} → List (Event T) → Type 0
IsTaken past = IsLocked rw_writer_table past ⊎ (is_marked_after past ≡ true)

-- the latest exchange of the party's latest call that failed did so after its own closure had answered Abort, and another party had
-- written the word since the call's sight before it
abbrev pub HasMissedAfterAbort : {T : Type 0} → ℕ → List (Event T) → Type 0
HasMissedAfterAbort party [] = ⊥
HasMissedAfterAbort party (e ∷ past) =
    MatchBool (e.party == party)
    (MatchBool (is_sight Word.State e.act && is_failure e.act) (HasAborted party past × OtherWroteSinceSight Word.State party past)
    (MatchBool (is_beginning e.act) ⊥ (HasMissedAfterAbort party past)))
    (HasMissedAfterAbort party past)

-- `TryReadLock`: no reader might enter at its last sight, or another party wrote the word between its two sights. `ReadLock`: the first
-- of these, after its own closure had answered Abort. `TryWriteLock`: a hold stood at its last sight, or the mark was set. `WriteLock`: its
-- own closure had answered Abort, and after that a hold stood at its last sight, or it missed.
abbrev pub RwWriterCause : {T : Type 0} → Call T → ℕ → List (Event T) → Type 0
RwWriterCause Call.TryReadLock party events = AtLastSight Word.State IsShut party events ⊎ HasMissed Word.State party events
RwWriterCause Call.ReadLock party events = AtLastSight Word.State (λ before. HasAborted party before × IsShut before) party events
RwWriterCause Call.TryWriteLock party events = AtLastSight Word.State IsTaken party events
RwWriterCause Call.WriteLock party events =
    AtLastSight Word.State (λ before. HasAborted party before × IsLocked rw_writer_table before) party events ⊎ HasMissedAfterAbort party events
RwWriterCause other party events = ⊥

-- Exact: the event in which a `TryWriteLock` sees the word grants the lock exactly where there was no hold before it, and the mark was not set.
abbrev pub IsExactGrant : {T : Type 0} → List (Event T) → Type 0
IsExactGrant [] = Unit {0}
IsExactGrant (e ∷ past) =
    MatchOption (call_of e.party past) (Unit {0})
    (λ c. c.call ≡ Call.TryWriteLock → is_sight Word.State e.act ≡ true →
    ((e.then ≡ Then.Answers Answer.Success) ↔ ((holds_of rw_writer_table past ≡ []) × (is_marked_after past ≡ false))))

-- How often a call tries before its wait closure is asked.

-- a reader's look in vain: no reader may enter
abbrev pub is_read_in_vain : {T : Type 0} → Act T → Bool
is_read_in_vain (Act.Load Word.State seen) = not (may_read seen)
is_read_in_vain (Act.Exchange Word.State from to found false) = not (may_read found)
is_read_in_vain act = false

-- the writer may neither enter nor set the mark
abbrev pub leaves_no_move : ℕ → Bool
leaves_no_move word = not (may_write word || may_mark word)

-- A writer's try in vain: a look at which it has no move; a mark that it has set; an exchange to enter that failed, where it may not set the
-- mark. A mark that failed is not counted, but what it found is a look.
abbrev pub is_write_in_vain : {T : Type 0} → Act T → Bool
is_write_in_vain (Act.Load Word.State seen) = leaves_no_move seen
is_write_in_vain (Act.Exchange Word.State from to found done) =
    if is_one_more from to then (done || leaves_no_move found) else ((to == 2 ^ 64 - 1) && not done && not (may_mark found))
is_write_in_vain act = false

-- A writer's spins: its tries in vain but those after which it loads the counter; by whether it does so next, after these events.
abbrev pub write_spins_in : {T : Type 0} → Bool → List (Event T) → ℕ
write_spins_in loads_next [] = 0
write_spins_in loads_next (e ∷ own) =
    (if (not loads_next && goes_on e.then && is_write_in_vain e.act) then 1 else 0) + write_spins_in (loads_count e.act) own

-- how often the call has spun; no call but a `ReadLock` or a `WriteLock` spins
abbrev pub spins_of : {T : Type 0} → SpinCount T
spins_of Call.ReadLock own = spins_in is_read_in_vain own
spins_of Call.WriteLock own = write_spins_in false own
spins_of call own = 0

-- What a reader tries in vain and then goes on by itself; of a writer the tries in vain but those after which it loads the counter, and but the last
-- of one that gives up, after which it takes the mark away.
abbrev pub spins_on : {T : Type 0} → SpinCount T
spins_on Call.ReadLock own = spins_in is_read_in_vain own
spins_on Call.WriteLock own = but_last_try own (write_spins_in true own)
spins_on call own = 0

-- What a wait closure is told: of a reader what its latest act saw of the word, of a writer the count that it loaded last.

abbrev pub count_told : {T : Type 0} → Option (Act T) → Option ℕ
count_told None = None
count_told (Some act) = sight_of Word.Counter act

abbrev pub told_by : {T : Type 0} → Refusing T
told_by Call.ReadLock own act = sight_of Word.State act
told_by Call.WriteLock own act = count_told (last_of loads_count own)
told_by call own act = None

-- how they wait
abbrev pub rw_writer_waiting : {T : Type 0} → Waiting T
rw_writer_waiting = record { spins = spins_of; goes_on = spins_on; refusing = told_by; wait = whole_call }

-- Where a writer stands.

-- a writer's wait closure is asked only by an event that sees the word, where a write hold stands, or the mark and a read hold
abbrev pub StandsWhereBlocked : {T : Type 0} → List (Event T) → Type 0
StandsWhereBlocked [] = Unit {0}
StandsWhereBlocked (e ∷ past) =
    MatchBool (stands_at_wait e.then)
    (MatchOption (call_of e.party past) ⊥ (λ c. c.call ≡ Call.WriteLock → (is_sight Word.State e.act ≡ true) × (is_blocked_after past ≡ true)))
    (Unit {0})

-- What a call answers.

-- What an `Unlock` has done once it ends, newest first. A reader's: it has subtracted 2 from the word; where it found 3, it has then counted,
-- and woken one. The writer's: it has stored 0, then counted, then woken one, then all.
abbrev pub HasUnlocked : {T : Type 0} → List (Act T) → Type 0
HasUnlocked (Act.Add Word.State old put ∷ []) = (old ≢ 3) × (put ≡ (old + (2 ^ 64 - 2)) % 2 ^ 64)
HasUnlocked (Act.Woke Wake.One ∷ Act.Add Word.Counter count next ∷ Act.Add Word.State old put ∷ []) =
    (old ≡ 3) × (put ≡ (old + (2 ^ 64 - 2)) % 2 ^ 64) × (next ≡ (count + 1) % 2 ^ 64)
HasUnlocked (Act.Woke Wake.All ∷ Act.Woke Wake.One ∷ Act.Add Word.Counter count next ∷ Act.Store Word.State put ∷ []) = (put ≡ 0) × (next ≡ (count + 1) % 2 ^ 64)
HasUnlocked done = ⊥

-- What a call does next, by its own steps so far, and how it is left by what that tells.

-- a refused reader, which is told the value seen
abbrev pub reader_waits : {T : Type 0} → List (Event T) → ℕ → Then T
reader_waits own v = refused_waiting own (spins_in is_read_in_vain own) v

-- How what it saw leaves a writer. One that gives up goes on only to take the mark away.
abbrev pub left_unmarking : {T : Type 0} → ℕ → Then T
left_unmarking v = if has_mark v then Then.GoesOn else Then.Answers Answer.Interrupted

-- one that may not enter goes on as long as it keeps on asking
abbrev pub left_refused : {T : Type 0} → Bool → ℕ → Then T
left_refused asks v = if asks then Then.GoesOn else left_unmarking v

-- after a look it goes on also where it may enter
abbrev pub left_looking : {T : Type 0} → Bool → ℕ → Then T
left_looking asks v = if may_write v then Then.GoesOn else left_refused asks v

-- and after its last look it stands where the lock is blocked, and is told the count
abbrev pub left_last : {T : Type 0} → Bool → ℕ → ℕ → Then T
left_last asks count v = if has_block v then Then.Waits count else left_looking asks v

abbrev pub goes_on_anyway : {T : Type 0} → ℕ → Then T
goes_on_anyway v = Then.GoesOn

-- What a writer does. It looks;
abbrev pub LooksToWrite : {T : Type 0} → Bool → Act T → Then T → Type 0
LooksToWrite asks act outcome = Loads Word.State (left_looking asks) act outcome

-- or spins, which is to look again, and after 10000 spins to load the counter;
abbrev pub SpinsOrLoads : {T : Type 0} → Bool → ℕ → Act T → Then T → Type 0
SpinsOrLoads asks spins act outcome = MatchBool (nat_lt spins 10000) (LooksToWrite asks act outcome) (Loads Word.Counter goes_on_anyway act outcome)

-- or sets the mark where it may, and else spins;
abbrev pub MarksAt : {T : Type 0} → Bool → ℕ → ℕ → Act T → Then T → Type 0
MarksAt asks spins v act outcome = MatchBool (may_mark v) (Exchanges Word.State v (v + 1) Then.GoesOn (left_looking asks) act outcome) (SpinsOrLoads asks spins act outcome)

-- or takes the mark away where one is set;
abbrev pub UnmarksAt : {T : Type 0} → ℕ → Act T → Then T → Type 0
UnmarksAt v act outcome = MatchBool (has_mark v) (Exchanges Word.State v (v - 1) Then.GoesOn left_unmarking act outcome) ⊥

-- where it may not enter it marks or spins as long as it keeps on asking, and then unmarks
abbrev pub RefusedAt : {T : Type 0} → Bool → ℕ → ℕ → Act T → Then T → Type 0
RefusedAt asks spins v act outcome = MatchBool asks (MarksAt asks spins v act outcome) (UnmarksAt v act outcome)

-- after a look at this value
abbrev pub LookedAt : {T : Type 0} → Bool → ℕ → ℕ → Act T → Then T → Type 0
LookedAt asks spins v act outcome = MatchBool (may_write v) (WritesIn v (left_refused asks) act outcome) (RefusedAt asks spins v act outcome)

-- the counter's add
abbrev pub CountsOne : {T : Type 0} → Act T → Then T → Type 0
CountsOne (Act.Add Word.Counter old put) outcome = (put ≡ (old + 1) % 2 ^ 64) × (outcome ≡ Then.GoesOn)
CountsOne act outcome = ⊥

-- After an exchange. One that set the mark: it spins. One that took it away: it counts. One that failed: to enter, it is refused by what it found; to set the mark,
-- that is a look; to take it away, which only one does that has been told to give up, the same again.
abbrev pub ExchangedFrom : {T : Type 0} → Bool → ℕ → ℕ → ℕ → ℕ → Bool → Act T → Then T → Type 0
ExchangedFrom asks spins from to found true act outcome = MatchBool (is_one_more from to) (SpinsOrLoads asks spins act outcome) (CountsOne act outcome)
ExchangedFrom asks spins from to found false act outcome =
    MatchBool (to == 2 ^ 64 - 1) (RefusedAt asks spins found act outcome)
    (MatchBool (is_one_more from to) (LookedAt asks spins found act outcome) (MatchBool asks ⊥ (UnmarksAt found act outcome)))

-- What follows a writer's latest step, by whether it keeps on asking and by its spins before: nothing, and so a look; the counter's load, and so its last look; a look; an
-- exchange; and of one that has taken the mark away the counter's add, a wake of one, and a wake of all.
abbrev pub WriterStep : {T : Type 0} → Bool → ℕ → Option (Act T) → Act T → Then T → Type 0
WriterStep asks spins None act outcome = LooksToWrite asks act outcome
WriterStep asks spins (Some (Act.Load Word.Counter count)) act outcome = Loads Word.State (left_last asks count) act outcome
WriterStep asks spins (Some (Act.Load word v)) act outcome = LookedAt asks spins v act outcome
WriterStep asks spins (Some (Act.Exchange word from to found done)) act outcome = ExchangedFrom asks spins from to found done act outcome
WriterStep asks spins (Some (Act.Add word old put)) act outcome = (act ≡ Act.Woke Wake.One) × (outcome ≡ Then.GoesOn)
WriterStep asks spins (Some (Act.Woke wake)) act outcome = (act ≡ Act.Woke Wake.All) × (outcome ≡ Then.Answers Answer.Interrupted)
WriterStep asks spins (Some other) act outcome = ⊥

-- a release takes 2 from the word, which ends the call unless it was 3, or stores 0
abbrev pub Releases : {T : Type 0} → Act T → Then T → Type 0
Releases (Act.Add Word.State old put) outcome = (put ≡ (old + (2 ^ 64 - 2)) % 2 ^ 64) × (outcome ≡ (if old == 3 then Then.GoesOn else Then.Answers Answer.Done))
Releases (Act.Store Word.State put) outcome = (put ≡ 0) × (outcome ≡ Then.GoesOn)
Releases act outcome = ⊥

-- the wake of one ends the call of a reader; after that of the writer's comes that of all
abbrev pub after_wake : {T : Type 0} → List (Act T) → Then T
after_wake (Act.Store word put ∷ before) = Then.GoesOn
after_wake before = Then.Answers Answer.Done

-- an `Unlock` releases, counts, wakes one, and wakes all
abbrev pub UnlockStep : {T : Type 0} → List (Act T) → Act T → Then T → Type 0
UnlockStep [] act outcome = Releases act outcome
UnlockStep (Act.Add Word.Counter old put ∷ before) act outcome = (act ≡ Act.Woke Wake.One) × (outcome ≡ after_wake before)
UnlockStep (Act.Woke wake ∷ before) act outcome = (act ≡ Act.Woke Wake.All) × (outcome ≡ Then.Answers Answer.Done)
UnlockStep (released ∷ before) act outcome = CountsOne act outcome

-- the next step of each call; no other has one
abbrev pub RwWriterStep : {T : Type 0} → Call T → List (Event T) → Act T → Then T → Type 0
RwWriterStep Call.TryReadLock own act outcome = ReadsIn may_read 2 gives_up gives_up own act outcome
RwWriterStep Call.ReadLock own act outcome = ReadsIn may_read 2 (reader_waits own) (reader_looked may_read (reader_waits own)) own act outcome
RwWriterStep Call.TryWriteLock own act outcome = (last_of is_step own ≡ None) × WritesIn 0 gives_up act outcome
RwWriterStep Call.WriteLock own act outcome = WriterStep (keeps_asking own) (write_spins_in true own) (step_before own) act outcome
RwWriterStep Call.Unlock own act outcome = UnlockStep (acts_of own) act outcome
RwWriterStep other own act outcome = ⊥

-- how many steps a call makes that waits for nobody
abbrev pub rw_writer_most : {T : Type 0} → Call T → Option ℕ
rw_writer_most Call.TryReadLock = Some 2
rw_writer_most Call.TryWriteLock = Some 1
rw_writer_most Call.Unlock = Some 4
rw_writer_most other = None

-- What a writer-preferring lock keeps beside what every object does.
pub record RwWriterLaw {T : Type 0} (past : List (Event T)) : Type 0 where
  -- the word is twice the number of read holds and the mark, or 2^64 - 1 with one write hold and no other
  pub counts : CountsHolds (word_in rw_writer_table past Word.State) (holds_of rw_writer_table past) (is_marked_after past)
  -- the mark is of a call that is under way
  pub mark : SetterIsUnderWay past
  -- and no read hold is granted while it is set
  pub keeps_out : MarkKeepsReadersOut past
  -- `TryWriteLock` is granted exactly where nobody holds the lock and the mark is not set
  pub exact : IsExactGrant past
  -- a locking call answers `Success` with the hold of its kind, `Interrupted` with none; an `Unlock` ends with `Done`, freed, counted and woken
  pub answers : AnswersByHold rw_writer_table HasUnlocked past
  -- a `ReadLock` or a `WriteLock` asks its closure after 10000 spins; a reader tells it what its latest look saw, a writer the count that it loaded last
  pub waits : WaitsAs rw_writer_waiting past
  -- a writer stands only where the lock is blocked: by a writer, or by the mark beside readers
  pub stands : StandsWhereBlocked past
  -- the counter is the number of adds on it so far, modulo 2 ^ 64
  pub adds : CounterCountsAdds past
  -- while a writer stands that was told what the counter is, some party owes a counter step wherever the lock is not blocked
  pub counted : NoCountIsLost past
  -- and a party that owes one makes it in its next step
  pub pays : PaysNext past
  -- while a reader stands that saw an odd word, whoever makes the word even owes a wake of all until it has made it
  pub woken : ReadersAreWoken past
  -- each step is the one that follows its call's own, and leaves it by what it tells
  pub steps : StepsAs RwWriterStep past
  -- a call that waits for nobody makes so many steps at most, and answers with the last
  pub within : EndsWithin rw_writer_most past

abbrev pub KeepsRwWriter : {T : Type 0} → List (Event T) → Type 0
KeepsRwWriter past = Keeps rw_writer_table RwWriterCause RwWriterLaw past
