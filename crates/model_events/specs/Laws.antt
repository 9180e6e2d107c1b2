-- What laws of every object speak of.
use Rattle.std.specs.Prelude.{◌≡◌, ◌<◌, ℕ, ◌==◌, Bool, true, false, not, Option, List, [], ◌∷◌, length, Contains, MatchBool, MatchOption}
use Rattle.model_events.specs.Types.{Word, Call, Act, Answer, Then, Event, HoldKind, Intent}
use Rattle.model_events.specs.Tables.{Table}
use Rattle.model_events.specs.Past.{Hold, same_word, call_of, holds_of, word_in}

-- an act that tells a word's value tells what the memory holds there, and an exchange is done exactly where it found its `from`
abbrev pub IsTold : {T : Type 0} → Act T → (Word → ℕ) → Type 0
IsTold (Act.Load word seen) memory = seen ≡ memory word
IsTold (Act.Swap word old put) memory = old ≡ memory word
IsTold (Act.Add word old put) memory = old ≡ memory word
IsTold (Act.Exchange word from to found done) memory = (found ≡ memory word) × (done ≡ (found == from))
IsTold act memory = Unit {0}

-- Told: so does the latest event.
abbrev pub TellsMemory : {T P : Type 0} → Table T P → List (Event T) → Type 0
TellsMemory t [] = Unit {0}
TellsMemory t (e ∷ past) = IsTold e.act (word_in t past)

-- Exclusive: a write hold is the only hold.
abbrev pub IsExclusive : List Hold → Type 0
IsExclusive holds = (party : ℕ) → Contains holds (party, HoldKind.Write) → holds ≡ (party, HoldKind.Write) ∷ []

-- some hold of the lock
abbrev pub IsLocked : {T P : Type 0} → Table T P → List (Event T) → Type 0
IsLocked t past = 0 < length (holds_of t past)

abbrev pub is_refusal : {T : Type 0} → Then T → Bool
is_refusal (Then.Answers Answer.Interrupted) = true
is_refusal (Then.Answers Answer.InterruptedHeld) = true
is_refusal (Then.Answers Answer.Full) = true
is_refusal other = false

-- Cause: where the latest event refused its call, the call's cause is there, as a fact of the events up to the answer.
abbrev pub HasCause : {T : Type 0} → (Call T → ℕ → List (Event T) → Type 0) → List (Event T) → Type 0
HasCause Cause [] = Unit {0}
HasCause Cause (e ∷ past) =
    MatchBool (is_refusal e.then)
    (MatchOption (call_of e.party past) ⊥ (λ c. Cause c.call e.party (e ∷ past)))
    (Unit {0})

-- What an object keeps at every prefix of every run: of every object the same three facts, and a law of its own.
pub record Keeps {T P : Type 0} (t : Table T P) (Cause : Call T → ℕ → List (Event T) → Type 0) (Law : List (Event T) → Type 0) (past : List (Event T)) : Type 0 where
  -- each act that tells a word's value tells what the memory holds there
  pub told : TellsMemory t past
  -- a lock has one writer or only readers
  pub exclusive : IsExclusive (holds_of t past)
  -- each refusal has its cause
  pub cause : HasCause Cause past
  pub law : Law past

-- a step that neither tells nor changes the word
abbrev pub is_apart : {T : Type 0} → Word → Intent T → Bool
is_apart word (Intent.Load w) = not (same_word w word)
is_apart word (Intent.Store w put) = not (same_word w word)
is_apart word (Intent.Swap w put) = not (same_word w word)
is_apart word (Intent.Add w more) = not (same_word w word)
is_apart word (Intent.Subtract w less) = not (same_word w word)
is_apart word (Intent.Exchange w from to) = not (same_word w word)
is_apart word other = true

-- no step of the table works on the word
abbrev pub Lacks : {T P : Type 0} → Table T P → Word → Type 0
Lacks {T} {P} t word = (place : P) (hold : Option HoldKind) → is_apart word (t.intent place hold) ≡ true
