-- The calls of a semaphore, step for step.
use Rattle.std.specs.Prelude.{ℕ, ◌-◌, ◌==◌, true, false, Option, Some, None, unwrap_or, if◌then◌else◌}
use Rattle.model_semaphore.specs.Names.{WaitAction, Word, Wake, Call, Answer, Patience, After, within, refused, answered}
use Rattle.model_events.specs.Exports.{Table}
use Rattle.model_events.specs.declared.{row.Intent.Intent}
use Rattle.model_semaphore.specs.declared.SemaphorePlace.{SemaphorePlace}

-- a call begins with all its spins, and asks until its closure answers Abort
abbrev pub semaphore_begins : {T : Type 0} → Call T → Option SemaphorePlace
semaphore_begins Call.Value = Some SemaphorePlace.Value
semaphore_begins (Call.Post n) = Some (SemaphorePlace.Post n)
semaphore_begins Call.TryWait = Some SemaphorePlace.TryLook
semaphore_begins Call.Wait = Some (SemaphorePlace.Look (record { spins = 0; keep = true }))
semaphore_begins other = None

-- the step at each place, on the semaphore's word
abbrev pub semaphore_intent : {T : Type 0} → Word → SemaphorePlace → Intent T
semaphore_intent word SemaphorePlace.Value = Intent.Load word
semaphore_intent word (SemaphorePlace.Post n) = Intent.Add word n
semaphore_intent word SemaphorePlace.Wake = Intent.Wake Wake.One
semaphore_intent word SemaphorePlace.TryLook = Intent.Load word
semaphore_intent word (SemaphorePlace.TryTake seen to) = Intent.Exchange word seen to
semaphore_intent word (SemaphorePlace.Look patience) = Intent.Load word
semaphore_intent word (SemaphorePlace.Take seen to patience) = Intent.Exchange word seen to

-- After a look `TryWait` gives up at 0, and else takes a permit from the value seen.
abbrev pub try_look : {T : Type 0} → ℕ → After T SemaphorePlace
try_look v = if v == 0 then After.Ends Answer.Interrupted else After.At (SemaphorePlace.TryTake v (v - 1))

-- After a look `Wait` spins, stands or gives up at 0, and else takes a permit from the value seen. Its closure is told 0.
abbrev pub look : {T : Type 0} → Patience → ℕ → After T SemaphorePlace
look patience v = if v == 0 then within SemaphorePlace.Look (refused patience 0) else After.At (SemaphorePlace.Take v (v - 1) patience)

-- The value that a failed exchange found is a look.
abbrev pub found_after : {T : Type 0} → SemaphorePlace → ℕ → After T SemaphorePlace
found_after SemaphorePlace.Value found = After.Ends (Answer.Number found)
found_after (SemaphorePlace.Post n) found = After.At SemaphorePlace.Wake
found_after SemaphorePlace.Wake found = After.Ends Answer.Done
found_after SemaphorePlace.TryLook found = try_look found
found_after (SemaphorePlace.TryTake seen to) found = if found == seen then After.Ends Answer.Success else try_look found
found_after (SemaphorePlace.Look patience) found = look patience found
found_after (SemaphorePlace.Take seen to patience) found = if found == seen then After.Ends Answer.Success else look patience found

abbrev pub semaphore_after : {T : Type 0} → SemaphorePlace → Option ℕ → After T SemaphorePlace
semaphore_after place told = found_after place (unwrap_or told 0)

abbrev pub semaphore_answered : SemaphorePlace → WaitAction → SemaphorePlace
semaphore_answered (SemaphorePlace.Look patience) action = SemaphorePlace.Look (answered patience action)
semaphore_answered other action = other

abbrev pub semaphore_opening : ℕ → Word → ℕ
semaphore_opening initial Word.State = initial
semaphore_opening initial other = 0

abbrev pub semaphore_table : {T : Type 0} → ℕ → Table T SemaphorePlace
semaphore_table initial =
    record {
      opening = semaphore_opening initial;
      begins = semaphore_begins;
      needs_hold = λ call. false;
      grant = λ call from to. None;
      intent = λ place hold. semaphore_intent Word.State place;
      after = semaphore_after;
      answered = semaphore_answered;
      chosen = λ place choice. place;
    }
