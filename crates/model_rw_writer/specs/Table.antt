-- The calls of a writer-preferring lock, step for step.
use Rattle.std.specs.Prelude.{ℕ, ◌+◌, ◌-◌, ◌%◌, ◌^◌, ◌==◌, nat_lt, Bool, true, false, ◌&&◌, ◌||◌, not, Option, Some, None, unwrap_or, if◌then◌else◌}
use Rattle.model_rw_writer.specs.Names.{WaitAction, Word, Wake, Call, Answer, HoldKind, Patience, Intent, After, within, refused, answered}
use Rattle.model_events.specs.Tables.{Table}
use Rattle.model_rw_writer.specs.declared.Leaver.{Leaver}
use Rattle.model_rw_writer.specs.declared.RwWriterPlace.{RwWriterPlace}

-- What the word says.

-- the mark is set, or a write hold stands
abbrev pub is_odd : ℕ → Bool
is_odd word = word % 2 == 1

-- a reader may enter: there is no write hold and no mark, and room for one more read hold
abbrev pub lets_readers_in : ℕ → Bool
lets_readers_in word = not (is_odd word) && nat_lt word (2 ^ 64 - 4)

-- the writer may enter: there is no hold, whether the mark is set or not
abbrev pub lets_writer_in : ℕ → Bool
lets_writer_in word = nat_lt word 2

-- the mark may be set
abbrev pub lets_mark : ℕ → Bool
lets_mark word = not (is_odd word) && not (word == 2 ^ 64 - 2)

-- the mark is set
abbrev pub is_marked : ℕ → Bool
is_marked word = is_odd word && not (word == 2 ^ 64 - 1)

-- the word is odd and above 1: a write hold stands, or the mark is set beside a read hold
abbrev pub is_blocked : ℕ → Bool
is_blocked word = is_odd word && nat_lt 1 word

-- one read hold stands, under the mark, which its release leaves alone
abbrev pub is_last_reader : ℕ → Bool
is_last_reader word = word == 3

-- Where a call begins: with all its spins, and it asks until its closure answers Abort.
abbrev pub rw_writer_begins : {T : Type 0} → Call T → Option RwWriterPlace
rw_writer_begins Call.TryReadLock = Some RwWriterPlace.TryReadLook
rw_writer_begins Call.ReadLock = Some (RwWriterPlace.ReadLook (record { spins = 0; keep = true }))
rw_writer_begins Call.TryWriteLock = Some RwWriterPlace.TryWrite
rw_writer_begins Call.WriteLock = Some (RwWriterPlace.WriteLook (record { spins = 0; keep = true }))
rw_writer_begins Call.Unlock = Some RwWriterPlace.Release
rw_writer_begins other = None

-- a release goes by the kind of the hold: one reader less, or 0; no party begins it without a hold
abbrev pub release : {T : Type 0} → Word → Option HoldKind → Intent T
release word (Some HoldKind.Read) = Intent.Subtract word 2
release word other = Intent.Store word 0

-- the step at each place, on the lock's word and its wake counter, by the party's hold
abbrev pub rw_writer_intent : {T : Type 0} → Word → Word → RwWriterPlace → Option HoldKind → Intent T
rw_writer_intent word wake_counter RwWriterPlace.TryReadLook hold = Intent.Load word
rw_writer_intent word wake_counter (RwWriterPlace.TryRead seen to) hold = Intent.Exchange word seen to
rw_writer_intent word wake_counter (RwWriterPlace.ReadLook patience) hold = Intent.Load word
rw_writer_intent word wake_counter (RwWriterPlace.Read seen to patience) hold = Intent.Exchange word seen to
rw_writer_intent word wake_counter RwWriterPlace.TryWrite hold = Intent.Exchange word 0 (2 ^ 64 - 1)
rw_writer_intent word wake_counter (RwWriterPlace.WriteLook patience) hold = Intent.Load word
rw_writer_intent word wake_counter (RwWriterPlace.Enter seen patience) hold = Intent.Exchange word seen (2 ^ 64 - 1)
rw_writer_intent word wake_counter (RwWriterPlace.Mark seen to patience) hold = Intent.Exchange word seen to
rw_writer_intent word wake_counter (RwWriterPlace.Unmark seen to) hold = Intent.Exchange word seen to
rw_writer_intent word wake_counter (RwWriterPlace.LoadCounter patience) hold = Intent.Load wake_counter
rw_writer_intent word wake_counter (RwWriterPlace.LastLook count patience) hold = Intent.Load word
rw_writer_intent word wake_counter RwWriterPlace.Release hold = release word hold
rw_writer_intent word wake_counter (RwWriterPlace.Count who) hold = Intent.Add wake_counter 1
rw_writer_intent word wake_counter (RwWriterPlace.WakeOne who) hold = Intent.Wake Wake.One
rw_writer_intent word wake_counter (RwWriterPlace.WakeAll who) hold = Intent.Wake Wake.All

-- the word that a wake is of: that of one is of the wake counter, on which writers sleep, that of all of the lock's word, on which readers do
abbrev pub rw_writer_woken : Wake → Word
rw_writer_woken Wake.One = Word.Counter
rw_writer_woken Wake.All = Word.State

-- The readers.

-- After its look `TryReadLock` enters from the value seen, or gives up where no reader may enter.
abbrev pub try_read_look : {T : Type 0} → ℕ → After T RwWriterPlace
try_read_look v = if lets_readers_in v then After.At (RwWriterPlace.TryRead v (v + 2)) else After.Ends Answer.Interrupted

-- After a look `ReadLock` enters from the value seen; where no reader may enter it spins, stands or gives up. Its closure is told the value seen.
abbrev pub read_look : {T : Type 0} → Patience → ℕ → After T RwWriterPlace
read_look patience v = if lets_readers_in v then After.At (RwWriterPlace.Read v (v + 2) patience) else within RwWriterPlace.ReadLook (refused patience v)

-- The writer.

-- it spins; after all its spins it loads the counter, and then looks a last time before it stands
abbrev pub spins : {T : Type 0} → Patience → After T RwWriterPlace
spins patience =
    if nat_lt patience.spins 10000
    then After.At (RwWriterPlace.WriteLook (record { spins = patience.spins + 1; keep = patience.keep }))
    else After.At (RwWriterPlace.LoadCounter patience)

-- a writer that keeps on asking marks the word, so that no reader enters any more; where it is odd already, it spins
abbrev pub marks_or_spins : {T : Type 0} → Patience → ℕ → After T RwWriterPlace
marks_or_spins patience v = if lets_mark v then After.At (RwWriterPlace.Mark v (v + 1) patience) else spins patience

-- a writer that gives up takes the mark away, whoever has set it, or leaves where there is none
abbrev pub unmarks_or_leaves : {T : Type 0} → ℕ → After T RwWriterPlace
unmarks_or_leaves v = if is_marked v then After.At (RwWriterPlace.Unmark v (v - 1)) else After.Ends Answer.Interrupted

-- where it may not enter, or has missed
abbrev pub write_refused : {T : Type 0} → Patience → ℕ → After T RwWriterPlace
write_refused patience v = if patience.keep then marks_or_spins patience v else unmarks_or_leaves v

-- after a look it enters from 0 or 1
abbrev pub write_look : {T : Type 0} → Patience → ℕ → After T RwWriterPlace
write_look patience v = if lets_writer_in v then After.At (RwWriterPlace.Enter v patience) else write_refused patience v

-- after its last look it stands where the lock is blocked, and its closure is told the counter; else that is a look like others
abbrev pub last_look : {T : Type 0} → ℕ → Patience → ℕ → After T RwWriterPlace
last_look count patience v = if is_blocked v then After.Waits (RwWriterPlace.WriteLook patience) count else write_look patience v

-- The leaving.

-- after a release: the last reader under a mark counts and wakes one, another reader has ended; the writer counts and wakes one, then all
abbrev pub released : {T : Type 0} → Option ℕ → After T RwWriterPlace
released None = After.At (RwWriterPlace.Count Leaver.Writer)
released (Some old) = if is_last_reader old then After.At (RwWriterPlace.Count Leaver.Reader) else After.Ends Answer.Done

abbrev pub woken_one : {T : Type 0} → Leaver → After T RwWriterPlace
woken_one Leaver.Reader = After.Ends Answer.Done
woken_one Leaver.Writer = After.At (RwWriterPlace.WakeAll Leaver.Writer)
woken_one Leaver.GivenUp = After.At (RwWriterPlace.WakeAll Leaver.GivenUp)

abbrev pub woken_all : {T : Type 0} → Leaver → After T RwWriterPlace
woken_all Leaver.Reader = After.Ends Answer.Done
woken_all Leaver.Writer = After.Ends Answer.Done
woken_all Leaver.GivenUp = After.Ends Answer.Interrupted

-- how a call goes on, by what its step told
abbrev pub rw_writer_after : {T : Type 0} → RwWriterPlace → Option ℕ → After T RwWriterPlace
rw_writer_after RwWriterPlace.TryReadLook told = try_read_look (unwrap_or told 0)
rw_writer_after (RwWriterPlace.TryRead seen to) told = if unwrap_or told 0 == seen then After.Ends Answer.Success else After.Ends Answer.Interrupted
rw_writer_after (RwWriterPlace.ReadLook patience) told = read_look patience (unwrap_or told 0)
rw_writer_after (RwWriterPlace.Read seen to patience) told = if unwrap_or told 0 == seen then After.Ends Answer.Success else read_look patience (unwrap_or told 0)
rw_writer_after RwWriterPlace.TryWrite told = if unwrap_or told 0 == 0 then After.Ends Answer.Success else After.Ends Answer.Interrupted
rw_writer_after (RwWriterPlace.WriteLook patience) told = write_look patience (unwrap_or told 0)
rw_writer_after (RwWriterPlace.Enter seen patience) told = if unwrap_or told 0 == seen then After.Ends Answer.Success else write_refused patience (unwrap_or told 0)
rw_writer_after (RwWriterPlace.Mark seen to patience) told = if unwrap_or told 0 == seen then spins patience else write_look patience (unwrap_or told 0)
rw_writer_after (RwWriterPlace.Unmark seen to) told = if unwrap_or told 0 == seen then After.At (RwWriterPlace.Count Leaver.GivenUp) else unmarks_or_leaves (unwrap_or told 0)
rw_writer_after (RwWriterPlace.LoadCounter patience) told = After.At (RwWriterPlace.LastLook (unwrap_or told 0) patience)
rw_writer_after (RwWriterPlace.LastLook count patience) told = last_look count patience (unwrap_or told 0)
rw_writer_after RwWriterPlace.Release told = released told
rw_writer_after (RwWriterPlace.Count who) told = After.At (RwWriterPlace.WakeOne who)
rw_writer_after (RwWriterPlace.WakeOne who) told = woken_one who
rw_writer_after (RwWriterPlace.WakeAll who) told = woken_all who

abbrev pub rw_writer_answered : RwWriterPlace → WaitAction → RwWriterPlace
rw_writer_answered (RwWriterPlace.ReadLook patience) action = RwWriterPlace.ReadLook (answered patience action)
rw_writer_answered (RwWriterPlace.WriteLook patience) action = RwWriterPlace.WriteLook (answered patience action)
rw_writer_answered other action = other

-- only a party with a hold may begin `Unlock`
abbrev pub rw_writer_needs_hold : {T : Type 0} → Call T → Bool
rw_writer_needs_hold Call.Unlock = true
rw_writer_needs_hold other = false

-- a writing call's exchange by one up or down sets the mark or takes it away
abbrev pub is_mark : ℕ → ℕ → Bool
is_mark from to = to == from + 1

abbrev pub is_unmark : ℕ → ℕ → Bool
is_unmark from to = from == to + 1

-- a reading call takes a read hold, a writing call the write hold by each exchange that neither sets the mark nor takes it away
abbrev pub rw_writer_grant : {T : Type 0} → Call T → ℕ → ℕ → Option HoldKind
rw_writer_grant Call.ReadLock from to = Some HoldKind.Read
rw_writer_grant Call.TryReadLock from to = Some HoldKind.Read
rw_writer_grant Call.WriteLock from to = if (is_mark from to || is_unmark from to) then None else Some HoldKind.Write
rw_writer_grant Call.TryWriteLock from to = Some HoldKind.Write
rw_writer_grant other from to = None

abbrev pub rw_writer_table : {T : Type 0} → Table T RwWriterPlace
rw_writer_table =
    record {
      opening = λ word. 0;
      begins = rw_writer_begins;
      needs_hold = rw_writer_needs_hold;
      grant = rw_writer_grant;
      intent = λ place hold. rw_writer_intent Word.State Word.Counter place hold;
      after = rw_writer_after;
      answered = rw_writer_answered;
      chosen = λ place choice. place;
    }
