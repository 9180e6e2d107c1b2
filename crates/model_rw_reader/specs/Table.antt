-- The calls of a reader-preferring lock, step for step.
use Rattle.std.specs.Prelude.{ℕ, ◌+◌, ◌-◌, ◌^◌, ◌==◌, nat_lt, Bool, true, false, Option, Some, None, unwrap_or, if◌then◌else◌}
use Rattle.model_rw_reader.specs.Names.{WaitAction, Word, Wake, Call, Answer, HoldKind, Patience, Intent, After, within, refused, answered, Table}
use Rattle.model_rw_reader.specs.declared.RwReaderPlace.{RwReaderPlace}

-- a call begins with all its spins, and asks until its closure answers Abort
abbrev pub rw_reader_begins : {T : Type 0} → Call T → Option RwReaderPlace
rw_reader_begins Call.TryReadLock = Some RwReaderPlace.TryReadLook
rw_reader_begins Call.ReadLock = Some (RwReaderPlace.ReadLook (record { spins = 0; keep = true }))
rw_reader_begins Call.TryWriteLock = Some RwReaderPlace.TryWrite
rw_reader_begins Call.WriteLock = Some (RwReaderPlace.Write (record { spins = 0; keep = true }))
rw_reader_begins Call.Unlock = Some RwReaderPlace.Release
rw_reader_begins other = None

-- a release goes by the kind of the hold: one reader less, or 0; no party begins it without a hold
abbrev pub release : {T : Type 0} → Word → Option HoldKind → Intent T
release word (Some HoldKind.Read) = Intent.Subtract word 1
release word other = Intent.Store word 0

-- the step at each place, on the lock's word, by the party's hold
abbrev pub rw_reader_intent : {T : Type 0} → Word → RwReaderPlace → Option HoldKind → Intent T
rw_reader_intent word RwReaderPlace.TryReadLook hold = Intent.Load word
rw_reader_intent word (RwReaderPlace.TryRead seen to) hold = Intent.Exchange word seen to
rw_reader_intent word (RwReaderPlace.ReadLook patience) hold = Intent.Load word
rw_reader_intent word (RwReaderPlace.Read seen to patience) hold = Intent.Exchange word seen to
rw_reader_intent word RwReaderPlace.TryWrite hold = Intent.Exchange word 0 (2 ^ 64 - 1)
rw_reader_intent word (RwReaderPlace.Write patience) hold = Intent.Exchange word 0 (2 ^ 64 - 1)
rw_reader_intent word RwReaderPlace.Release hold = release word hold
rw_reader_intent word RwReaderPlace.Wake hold = Intent.Wake Wake.One

-- a reader may enter: there is no write hold, and room for one more read hold
abbrev pub lets_readers_in : ℕ → Bool
lets_readers_in word = nat_lt word (2 ^ 64 - 2)

-- After its look `TryReadLock` enters from the value seen, or gives up where no reader may enter.
abbrev pub try_read_look : {T : Type 0} → ℕ → After T RwReaderPlace
try_read_look v = if lets_readers_in v then After.At (RwReaderPlace.TryRead v (v + 1)) else After.Ends Answer.Interrupted

-- After a look `ReadLock` enters from the value seen; where no reader may enter it spins, stands or gives up. Its closure is told the value seen.
abbrev pub read_look : {T : Type 0} → Patience → ℕ → After T RwReaderPlace
read_look patience v = if lets_readers_in v then After.At (RwReaderPlace.Read v (v + 1) patience) else within RwReaderPlace.ReadLook (refused patience v)

-- The value that a failed exchange of `ReadLock` found is a look. `TryReadLock` gives up there. `WriteLock` spins, stands or gives up; its closure is told the value found.
abbrev pub found_after : {T : Type 0} → RwReaderPlace → ℕ → After T RwReaderPlace
found_after RwReaderPlace.TryReadLook found = try_read_look found
found_after (RwReaderPlace.TryRead seen to) found = if found == seen then After.Ends Answer.Success else After.Ends Answer.Interrupted
found_after (RwReaderPlace.ReadLook patience) found = read_look patience found
found_after (RwReaderPlace.Read seen to patience) found = if found == seen then After.Ends Answer.Success else read_look patience found
found_after RwReaderPlace.TryWrite found = if found == 0 then After.Ends Answer.Success else After.Ends Answer.Interrupted
found_after (RwReaderPlace.Write patience) found = if found == 0 then After.Ends Answer.Success else within RwReaderPlace.Write (refused patience found)
found_after RwReaderPlace.Release found = After.At RwReaderPlace.Wake
found_after RwReaderPlace.Wake found = After.Ends Answer.Done

abbrev pub rw_reader_after : {T : Type 0} → RwReaderPlace → Option ℕ → After T RwReaderPlace
rw_reader_after place told = found_after place (unwrap_or told 0)

abbrev pub rw_reader_answered : RwReaderPlace → WaitAction → RwReaderPlace
rw_reader_answered (RwReaderPlace.ReadLook patience) action = RwReaderPlace.ReadLook (answered patience action)
rw_reader_answered (RwReaderPlace.Write patience) action = RwReaderPlace.Write (answered patience action)
rw_reader_answered other action = other

-- only a party with a hold may begin `Unlock`
abbrev pub rw_reader_needs_hold : {T : Type 0} → Call T → Bool
rw_reader_needs_hold Call.Unlock = true
rw_reader_needs_hold other = false

-- a reading call takes a read hold, a writing call the write hold
abbrev pub rw_reader_grant : {T : Type 0} → Call T → ℕ → ℕ → Option HoldKind
rw_reader_grant Call.ReadLock from to = Some HoldKind.Read
rw_reader_grant Call.TryReadLock from to = Some HoldKind.Read
rw_reader_grant Call.WriteLock from to = Some HoldKind.Write
rw_reader_grant Call.TryWriteLock from to = Some HoldKind.Write
rw_reader_grant other from to = None

abbrev pub rw_reader_table : {T : Type 0} → Table T RwReaderPlace
rw_reader_table =
    record {
      opening = λ word. 0;
      begins = rw_reader_begins;
      needs_hold = rw_reader_needs_hold;
      grant = rw_reader_grant;
      intent = λ place hold. rw_reader_intent Word.State place hold;
      after = rw_reader_after;
      answered = rw_reader_answered;
      chosen = λ place choice. place;
    }
