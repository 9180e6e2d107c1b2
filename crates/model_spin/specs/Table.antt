-- The calls of a spin lock, step for step.
use Rattle.std.specs.Prelude.{ℕ, Bool, true, false, ◌==◌, Option, Some, None, if◌then◌else◌}
use Rattle.model_events.specs.Exports.{Table}
use Rattle.model_events.specs.declared.{event.Answer.Answer, event.Call.Call, event.Word.Word, hold.HoldKind.HoldKind, row.After.After, row.Intent.Intent}
use Rattle.model_spin.specs.declared.SpinPlace.{SpinPlace}

-- `Lock` and `BlockingLock` are one
abbrev pub spin_begins : {T : Type 0} → Call T → Option SpinPlace
spin_begins Call.TryLock = Some SpinPlace.TryLock
spin_begins Call.Lock = Some SpinPlace.Lock
spin_begins Call.BlockingLock = Some SpinPlace.Lock
spin_begins Call.Unlock = Some SpinPlace.Release
spin_begins other = None

-- the step at each place, on the lock's word
abbrev pub spin_intent : {T : Type 0} → Word → SpinPlace → Intent T
spin_intent word SpinPlace.TryLock = Intent.Swap word 1
spin_intent word SpinPlace.Lock = Intent.Swap word 1
spin_intent word SpinPlace.Release = Intent.Store word 0

abbrev pub is_free : Option ℕ → Bool
is_free None = false
is_free (Some found) = found == 0

-- Where the swap told that the lock is held, `TryLock` gives up, and the others swap again, without end.
abbrev pub spin_after : {T : Type 0} → SpinPlace → Option ℕ → After T SpinPlace
spin_after SpinPlace.TryLock told = if is_free told then After.Ends Answer.Success else After.Ends Answer.Interrupted
spin_after SpinPlace.Lock told = if is_free told then After.Ends Answer.Success else After.At SpinPlace.Lock
spin_after SpinPlace.Release told = After.Ends Answer.Done

-- only a party with a hold may begin `Unlock`
abbrev pub spin_needs_hold : {T : Type 0} → Call T → Bool
spin_needs_hold Call.Unlock = true
spin_needs_hold other = false

-- a locking call takes the one write hold
abbrev pub spin_grant : {T : Type 0} → Call T → ℕ → ℕ → Option HoldKind
spin_grant Call.Lock from to = Some HoldKind.Write
spin_grant Call.BlockingLock from to = Some HoldKind.Write
spin_grant Call.TryLock from to = Some HoldKind.Write
spin_grant other from to = None

-- no call of a spin lock asks a closure
abbrev pub spin_table : {T : Type 0} → Table T SpinPlace
spin_table =
    record {
      opening = λ word. 0;
      begins = spin_begins;
      needs_hold = spin_needs_hold;
      grant = spin_grant;
      intent = λ place hold. spin_intent Word.State place;
      after = spin_after;
      answered = λ place action. place;
      chosen = λ place choice. place;
    }
