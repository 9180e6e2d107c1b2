-- How a reader comes into a lock with read and write holds, by its own steps so far: at which values a reader may enter, and by how much a read hold
-- raises the word, is each lock's own.
use Rattle.std.specs.Prelude.{ℕ, ◌+◌, ◌-◌, ◌^◌, Bool, if◌then◌else◌, List, Option, Some, None, MatchOption}
use Rattle.model_events.specs.Types.{Word, Act, Event, Answer, Then}
use Rattle.model_events.specs.NextStep.{seen_last, Loads, Exchanges}

abbrev pub gives_up : {T : Type 0} → ℕ → Then T
gives_up v = Then.Answers Answer.Interrupted

-- the value from which a reader enters: what it saw last, if a reader may enter there
abbrev pub open_at : (ℕ → Bool) → Option ℕ → Option ℕ
open_at lets_in None = None
open_at lets_in (Some v) = if lets_in v then Some v else None

-- how a look leaves a reader, which goes on where it may enter
abbrev pub reader_looked : {T : Type 0} → (ℕ → Bool) → (ℕ → Then T) → ℕ → Then T
reader_looked lets_in shut v = if lets_in v then Then.GoesOn else shut v

-- a reader looks, until it sees a value from which it may enter; from that it makes its exchange
abbrev pub ReadsIn : {T : Type 0} → (ℕ → Bool) → ℕ → (ℕ → Then T) → (ℕ → Then T) → List (Event T) → Act T → Then T → Type 0
ReadsIn lets_in more shut missed own act outcome =
    MatchOption (open_at lets_in (seen_last Word.State own))
    (Loads Word.State (reader_looked lets_in shut) act outcome)
    (λ v. Exchanges Word.State v (v + more) (Then.Answers Answer.Success) missed act outcome)

-- an exchange of this value for that of the write hold
abbrev pub WritesIn : {T : Type 0} → ℕ → (ℕ → Then T) → Act T → Then T → Type 0
WritesIn seen missed act outcome = Exchanges Word.State seen (2 ^ 64 - 1) (Then.Answers Answer.Success) missed act outcome
