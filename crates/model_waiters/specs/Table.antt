-- The calls of the count, step for step.
use Rattle.std.specs.Prelude.{ℕ, Option, Some, None, false, unwrap_or}
use Rattle.model_waiters.specs.Names.{Word, Call, Answer, Intent, After, Table, WaitersPlace}

abbrev pub waiters_begins : {T : Type 0} → Call T → Option WaitersPlace
waiters_begins Call.Value = Some WaitersPlace.Look
waiters_begins Call.Wait = Some WaitersPlace.CountIn
waiters_begins other = None

abbrev pub waiters_intent : {T : Type 0} → WaitersPlace → Intent T
waiters_intent WaitersPlace.Look = Intent.Load Word.Waiters
waiters_intent WaitersPlace.CountIn = Intent.Add Word.Waiters 1
waiters_intent WaitersPlace.Inside = Intent.End
waiters_intent WaitersPlace.CountOut = Intent.Subtract Word.Waiters 1

-- a look is answered what it saw
abbrev pub waiters_after : {T : Type 0} → WaitersPlace → Option ℕ → After T WaitersPlace
waiters_after WaitersPlace.Look told = After.Ends (Answer.Number (unwrap_or told 0))
waiters_after WaitersPlace.CountIn told = After.At WaitersPlace.Inside
waiters_after WaitersPlace.Inside told = After.At WaitersPlace.CountOut
waiters_after WaitersPlace.CountOut told = After.Ends Answer.Done

-- no call of the count takes a hold or asks a closure
abbrev pub waiters_table : {T : Type 0} → Table T WaitersPlace
waiters_table =
    record {
      opening = λ word. 0;
      begins = waiters_begins;
      needs_hold = λ call. false;
      grant = λ call from to. None;
      intent = λ place hold. waiters_intent place;
      after = waiters_after;
      answered = λ place action. place;
      chosen = λ place choice. place;
    }
