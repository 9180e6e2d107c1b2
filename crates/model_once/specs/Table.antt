-- The calls of a once, step for step.
use Rattle.std.specs.Prelude.{ℕ, ◌==◌, false, Option, Some, None, unwrap_or, if◌then◌else◌}
use Rattle.model_once.specs.Names.{Word, Call, Answer, Intent, After, Table}
use Rattle.model_once.specs.declared.OncePlace.{OncePlace}

abbrev pub once_begins : {T : Type 0} → Call T → Option OncePlace
once_begins Call.IsCompleted = Some OncePlace.IsCompleted
once_begins Call.CallOnce = Some OncePlace.Look
once_begins other = None

-- the step at each place, on the once's word
abbrev pub once_intent : {T : Type 0} → Word → OncePlace → Intent T
once_intent word OncePlace.IsCompleted = Intent.Load word
once_intent word OncePlace.Look = Intent.Load word
once_intent word OncePlace.Begin = Intent.Exchange word 0 1
once_intent word OncePlace.Run = Intent.End
once_intent word OncePlace.Complete = Intent.Store word 2
once_intent word OncePlace.Stay = Intent.Load word

-- The exchange that is done decides whose closure runs; it ends, and then its call stores 2. Each other call looks until it sees 2.
abbrev pub found_after : {T : Type 0} → OncePlace → ℕ → After T OncePlace
found_after OncePlace.IsCompleted found = After.Ends (Answer.Flag (found == 2))
found_after OncePlace.Look found = if found == 2 then After.Ends Answer.Done else After.At OncePlace.Begin
found_after OncePlace.Begin found = if found == 0 then After.At OncePlace.Run else After.At OncePlace.Stay
found_after OncePlace.Run found = After.At OncePlace.Complete
found_after OncePlace.Complete found = After.Ends Answer.Done
found_after OncePlace.Stay found = if found == 2 then After.Ends Answer.Done else After.At OncePlace.Stay

abbrev pub once_after : {T : Type 0} → OncePlace → Option ℕ → After T OncePlace
once_after place told = found_after place (unwrap_or told 0)

-- no call of a once asks a closure
abbrev pub once_table : {T : Type 0} → Table T OncePlace
once_table =
    record {
      opening = λ word. 0;
      begins = once_begins;
      needs_hold = λ call. false;
      grant = λ call from to. None;
      intent = λ place hold. once_intent Word.State place;
      after = once_after;
      answered = λ place action. place;
      chosen = λ place choice. place;
    }
