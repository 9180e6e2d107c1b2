-- The calls of a condition variable and its mutex, step for step: the mutex's rows on `State`, the semaphore's on `Value`, and between them the
-- rows on the waiter count.
use Rattle.std.specs.Prelude.{ℕ, min, Bool, true, false, Option, Some, None, unwrap_or, if◌then◌else◌}
use Rattle.model_condvar.specs.Names.{WaitAction, Word, Wake, Call, Answer, HoldKind, After, within, within_then, MutexPlace, mutex_begins, mutex_intent, mutex_after, mutex_answered, mutex_needs_hold, mutex_grant, SemaphorePlace, semaphore_intent, semaphore_after, semaphore_answered}
use Rattle.model_events.specs.Exports.{Table}
use Rattle.model_events.specs.declared.{row.Intent.Intent}
use Rattle.model_condvar.specs.declared.CondvarPlace.{CondvarPlace}

-- how many permits a notify gives that wakes so, where so many wait
abbrev pub permits_for : Wake → ℕ → ℕ
permits_for Wake.One waiters = min 1 waiters
permits_for Wake.All waiters = waiters

abbrev pub in_mutex : Option MutexPlace → Option CondvarPlace
in_mutex None = None
in_mutex (Some place) = Some (CondvarPlace.Mutex place)

abbrev pub condvar_begins : {T : Type 0} → Call T → Option CondvarPlace
condvar_begins Call.NotifyOne = Some (CondvarPlace.Read Wake.One)
condvar_begins Call.NotifyAll = Some (CondvarPlace.Read Wake.All)
condvar_begins Call.Wait = Some CondvarPlace.CountIn
condvar_begins call = in_mutex (mutex_begins call)

abbrev pub condvar_intent : {T : Type 0} → CondvarPlace → Intent T
condvar_intent (CondvarPlace.Mutex place) = mutex_intent Word.State place
condvar_intent (CondvarPlace.Read wake) = Intent.Load Word.Waiters
condvar_intent (CondvarPlace.Post wake amount) = semaphore_intent Word.Value (SemaphorePlace.Post amount)
condvar_intent (CondvarPlace.Wake wake) = Intent.Wake wake
condvar_intent CondvarPlace.CountIn = Intent.Add Word.Waiters 1
condvar_intent (CondvarPlace.Release place) = mutex_intent Word.State place
condvar_intent (CondvarPlace.Permit place) = semaphore_intent Word.Value place
condvar_intent (CondvarPlace.CountOut signalled) = Intent.Subtract Word.Waiters 1
condvar_intent (CondvarPlace.Relock signalled place) = mutex_intent Word.State place

-- the word that a call's wake is of: a notify's is of the permits, on which a `Wait` sleeps, every other of the mutex's word
abbrev pub condvar_woken : {T : Type 0} → Call T → Word
condvar_woken Call.NotifyOne = Word.Value
condvar_woken Call.NotifyAll = Word.Value
condvar_woken other = Word.State

abbrev pub is_success : {T : Type 0} → Answer T → Bool
is_success Answer.Success = true
is_success other = false

-- what a `Wait` answers, by whether it was signalled, and by what its lock of the mutex answers
abbrev pub woken : {T : Type 0} → Bool → Answer T → Answer T
woken signalled Answer.Success = if signalled then Answer.Success else Answer.InterruptedHeld
woken signalled other = Answer.Interrupted

-- A `Wait` counts itself, unlocks, waits for a permit, counts itself out, and locks as a call of `Lock` does.

-- once it has unlocked, it waits for a permit
abbrev pub released : {T : Type 0} → After T MutexPlace → After T CondvarPlace
released after = within_then CondvarPlace.Release (λ answer. After.At (CondvarPlace.Permit (SemaphorePlace.Look (record { spins = 0; keep = true })))) after

-- whether it took a permit or gave up, it counts itself out
abbrev pub permitted : {T : Type 0} → After T SemaphorePlace → After T CondvarPlace
permitted after = within_then CondvarPlace.Permit (λ answer. After.At (CondvarPlace.CountOut (is_success answer))) after

-- then it locks again, and answers
abbrev pub relocked : {T : Type 0} → Bool → After T MutexPlace → After T CondvarPlace
relocked signalled after = within_then (CondvarPlace.Relock signalled) (λ answer. After.Ends (woken signalled answer)) after

abbrev pub condvar_after : {T : Type 0} → CondvarPlace → Option ℕ → After T CondvarPlace
condvar_after (CondvarPlace.Mutex place) told = within CondvarPlace.Mutex (mutex_after place told)
condvar_after (CondvarPlace.Read wake) told = After.At (CondvarPlace.Post wake (permits_for wake (unwrap_or told 0)))
condvar_after (CondvarPlace.Post wake amount) told = After.At (CondvarPlace.Wake wake)
condvar_after (CondvarPlace.Wake wake) told = After.Ends Answer.Done
condvar_after CondvarPlace.CountIn told = After.At (CondvarPlace.Release MutexPlace.Release)
condvar_after (CondvarPlace.Release place) told = released (mutex_after place told)
condvar_after (CondvarPlace.Permit place) told = permitted (semaphore_after place told)
condvar_after (CondvarPlace.CountOut signalled) told = After.At (CondvarPlace.Relock signalled (MutexPlace.Lock (record { spins = 0; keep = true })))
condvar_after (CondvarPlace.Relock signalled place) told = relocked signalled (mutex_after place told)

abbrev pub condvar_answered : CondvarPlace → WaitAction → CondvarPlace
condvar_answered (CondvarPlace.Mutex place) action = CondvarPlace.Mutex (mutex_answered place action)
condvar_answered (CondvarPlace.Permit place) action = CondvarPlace.Permit (semaphore_answered place action)
condvar_answered (CondvarPlace.Relock signalled place) action = CondvarPlace.Relock signalled (mutex_answered place action)
condvar_answered other action = other

-- only a party with a hold may begin `Unlock` or `Wait`
abbrev pub condvar_needs_hold : {T : Type 0} → Call T → Bool
condvar_needs_hold Call.Wait = true
condvar_needs_hold call = mutex_needs_hold call

-- a locking call takes the one write hold, and so does a `Wait` that locks again
abbrev pub condvar_grant : {T : Type 0} → Call T → ℕ → ℕ → Option HoldKind
condvar_grant Call.Wait from to = Some HoldKind.Write
condvar_grant call from to = mutex_grant call from to

abbrev pub condvar_table : {T : Type 0} → Table T CondvarPlace
condvar_table =
    record {
      opening = λ word. 0;
      begins = condvar_begins;
      needs_hold = condvar_needs_hold;
      grant = condvar_grant;
      intent = λ place hold. condvar_intent place;
      after = condvar_after;
      answered = condvar_answered;
      chosen = λ place choice. place;
    }
