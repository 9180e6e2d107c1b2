-- The party of the model that a pass of a once is, and how its `CallOnce` goes.
use Rattle.std.specs.Prelude.{ℕ, List, None}
use Rattle.running_once.specs.Names.{Call, Answer, Then, OncePlace, Slot, Parties, IsAt, HasEnded}
use Rattle.running_once.specs.Once.{once_model}

-- it has looked, and comes to its exchange
abbrev pub ComesToBegin : List (Slot ℕ) → Parties ℕ → Type 0
ComesToBegin done p = IsAt once_model Call.CallOnce OncePlace.Begin Then.GoesOn None done p

-- its closure has begun, and is to end next
abbrev pub IsRunning : List (Slot ℕ) → Parties ℕ → Type 0
IsRunning done p = IsAt once_model Call.CallOnce OncePlace.Run Then.GoesOn None done p

-- its exchange failed, and it comes to a further look
abbrev pub ComesToStay : List (Slot ℕ) → Parties ℕ → Type 0
ComesToStay done p = IsAt once_model Call.CallOnce OncePlace.Stay Then.GoesOn None done p

-- it was answered `Done`
abbrev pub HasLeft : List (Slot ℕ) → Parties ℕ → Type 0
HasLeft done p = HasEnded once_model Call.CallOnce Answer.Done None done p

-- what follows from each of these

abbrev pub WhereBegins : Parties ℕ → (List (Slot ℕ) → Type 0) → Type 0
WhereBegins p Then = (done : List (Slot ℕ)) → ComesToBegin done p → Then done

abbrev pub WhereRuns : Parties ℕ → (List (Slot ℕ) → Type 0) → Type 0
WhereRuns p Then = (done : List (Slot ℕ)) → IsRunning done p → Then done

abbrev pub WhereStays : Parties ℕ → (List (Slot ℕ) → Type 0) → Type 0
WhereStays p Then = (done : List (Slot ℕ)) → ComesToStay done p → Then done
