-- The calls of a mutex, step for step.
use Rattle.std.specs.Prelude.{ℕ, Bool, true, false, ◌==◌, Option, Some, None, if◌then◌else◌}
use Rattle.model_mutex.specs.Names.{WaitAction, Word, Wake, Call, Answer, HoldKind, After, within, refused, answered, Table}
use Rattle.model_events.specs.declared.row.Intent.{Intent}
use Rattle.model_mutex.specs.declared.MutexPlace.{MutexPlace}

-- a call begins with all its spins, and asks until its closure answers Abort
abbrev pub mutex_begins : {T : Type 0} → Call T → Option MutexPlace
mutex_begins Call.TryLock = Some MutexPlace.TryLock
mutex_begins Call.Lock = Some (MutexPlace.Lock (record { spins = 0; keep = true }))
mutex_begins Call.Unlock = Some MutexPlace.Release
mutex_begins other = None

-- the step at each place, on the mutex's word
abbrev pub mutex_intent : {T : Type 0} → Word → MutexPlace → Intent T
mutex_intent word MutexPlace.TryLock = Intent.Exchange word 0 1
mutex_intent word (MutexPlace.Lock patience) = Intent.Exchange word 0 1
mutex_intent word MutexPlace.Release = Intent.Store word 0
mutex_intent word MutexPlace.Wake = Intent.Wake Wake.One

abbrev pub is_free : Option ℕ → Bool
is_free None = false
is_free (Some found) = found == 0

-- `TryLock` gives up where its one exchange failed. `Lock` spins, stands or gives up there; its closure is told 1.
abbrev pub mutex_after : {T : Type 0} → MutexPlace → Option ℕ → After T MutexPlace
mutex_after MutexPlace.TryLock told = if is_free told then After.Ends Answer.Success else After.Ends Answer.Interrupted
mutex_after (MutexPlace.Lock patience) told = if is_free told then After.Ends Answer.Success else within MutexPlace.Lock (refused patience 1)
mutex_after MutexPlace.Release told = After.At MutexPlace.Wake
mutex_after MutexPlace.Wake told = After.Ends Answer.Done

abbrev pub mutex_answered : MutexPlace → WaitAction → MutexPlace
mutex_answered (MutexPlace.Lock patience) action = MutexPlace.Lock (answered patience action)
mutex_answered other action = other

-- only a party with a hold may begin `Unlock`
abbrev pub mutex_needs_hold : {T : Type 0} → Call T → Bool
mutex_needs_hold Call.Unlock = true
mutex_needs_hold other = false

-- a locking call takes the one write hold
abbrev pub mutex_grant : {T : Type 0} → Call T → ℕ → ℕ → Option HoldKind
mutex_grant Call.Lock from to = Some HoldKind.Write
mutex_grant Call.TryLock from to = Some HoldKind.Write
mutex_grant other from to = None

abbrev pub mutex_table : {T : Type 0} → Table T MutexPlace
mutex_table =
    record {
      opening = λ word. 0;
      begins = mutex_begins;
      needs_hold = mutex_needs_hold;
      grant = mutex_grant;
      intent = λ place hold. mutex_intent Word.State place;
      after = mutex_after;
      answered = mutex_answered;
      chosen = λ place choice. place;
    }
