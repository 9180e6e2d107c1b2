-- Permits: what was given and what was taken at a word, as plain whole numbers without a limit.
use Rattle.std.specs.Prelude.{◌≡◌, ◌≤◌, ℕ, ◌+◌, ◌-◌, ◌%◌, ◌^◌, Bool, false, ◌&&◌, List, [], ◌∷◌, Option, Some, None, IfSome, MatchBool, if◌then◌else◌}
use Rattle.model_semaphore.specs.Names.{Word, Act, Answer, Then, Event, PendingCall, same_word, call_of, sight_of}

-- how many permits an act of a call gives
abbrev pub Giving : Type 0 → Type 0
Giving T = Act T → Option (PendingCall T) → ℕ

-- the permits given: the initial value, and all that were given since
abbrev pub permits_given : {T : Type 0} → Giving T → ℕ → List (Event T) → ℕ
permits_given gives initial [] = initial
permits_given gives initial (e ∷ past) = gives e.act (call_of e.party past) + permits_given gives initial past

-- an exchange of the word that is done takes one permit
abbrev pub is_take : {T : Type 0} → Word → Act T → Bool
is_take word (Act.Exchange w from to found done) = same_word w word && done
is_take word act = false

-- the permits taken
abbrev pub permits_taken : {T : Type 0} → Word → List (Event T) → ℕ
permits_taken word [] = 0
permits_taken word (e ∷ past) = (if is_take word e.act then 1 else 0) + permits_taken word past

-- the value: what was given less what was taken
abbrev pub permits : {T : Type 0} → Word → Giving T → ℕ → List (Event T) → ℕ
permits word gives initial past = (permits_given gives initial past - permits_taken word past) % 2 ^ 64

abbrev pub number_answered : {T : Type 0} → Then T → Option ℕ
number_answered (Then.Answers (Answer.Number n)) = Some n
number_answered other = None

-- the latest event told the value before it
abbrev pub TellsPermits : {T : Type 0} → Word → Giving T → ℕ → List (Event T) → Type 0
TellsPermits word gives initial [] = Unit {0}
TellsPermits word gives initial (e ∷ past) =
    IfSome (sight_of word e.act) (λ v. v ≡ permits word gives initial past) × IfSome (number_answered e.then) (λ v. v ≡ permits word gives initial past)

-- where the latest event took a permit, the value is exactly 1 less than before it
abbrev pub LowersByOne : {T : Type 0} → Word → Giving T → ℕ → List (Event T) → Type 0
LowersByOne word gives initial [] = Unit {0}
LowersByOne word gives initial (e ∷ past) = MatchBool (is_take word e.act) (permits word gives initial past ≡ permits word gives initial (e ∷ past) + 1) (Unit {0})

pub record KeepsPermits {T : Type 0} (word : Word) (gives : Giving T) (initial : ℕ) (past : List (Event T)) : Type 0 where
  -- no more permits are taken than given
  pub at_most : permits_taken word past ≤ permits_given gives initial past
  -- each value that is told is what was given less what was taken
  pub told : TellsPermits word gives initial past
  -- a take lowers it by exactly 1
  pub lowers : LowersByOne word gives initial past
