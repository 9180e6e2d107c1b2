-- What a call has seen and been told.
use Rattle.std.specs.Prelude.{◌≡◌, ℕ, ◌+◌, ◌==◌, ◌&&◌, Bool, true, false, List, [], ◌∷◌, MatchBool, MatchOption, if◌then◌else◌, Option, Some, None, is_some}
use Rattle.model_events.specs.Types.{WaitAction, Word, Act, Then, Event}
use Rattle.model_events.specs.Past.{same_word, call_of, is_failure}

-- what an act tells that the word held: a sight of it
abbrev pub sight_of : {T : Type 0} → Word → Act T → Option ℕ
sight_of word (Act.Load w seen) = if same_word w word then Some seen else None
sight_of word (Act.Swap w old put) = if same_word w word then Some old else None
sight_of word (Act.Add w old put) = if same_word w word then Some old else None
sight_of word (Act.Exchange w from to found done) = if same_word w word then Some found else None
sight_of word other = None

abbrev pub is_sight : {T : Type 0} → Word → Act T → Bool
is_sight word act = is_some (sight_of word act)

abbrev pub is_beginning : {T : Type 0} → Act T → Bool
is_beginning (Act.Begun call) = true
is_beginning other = false

-- P of the events before a party's last act of a kind in its latest call; a call without such an act has none
abbrev pub AtLast : {T : Type 0} → (Act T → Bool) → (List (Event T) → Type 0) → ℕ → List (Event T) → Type 0
AtLast is_it P party [] = ⊥
AtLast is_it P party (e ∷ past) =
    MatchBool (e.party == party)
    (MatchBool (is_it e.act) (P past) (MatchBool (is_beginning e.act) ⊥ (AtLast is_it P party past)))
    (AtLast is_it P party past)

-- before its last sight of the word
abbrev pub AtLastSight : {T : Type 0} → Word → (List (Event T) → Type 0) → ℕ → List (Event T) → Type 0
AtLastSight word P party past = AtLast (is_sight word) P party past

-- The answers of the wait closure.

abbrev pub is_abort : {T : Type 0} → Act T → Bool
is_abort (Act.Answered WaitAction.Abort) = true
is_abort act = false

-- the call goes on asking: its wait closure has not answered Abort
abbrev pub keeps_asking : {T : Type 0} → List (Event T) → Bool
keeps_asking [] = true
keeps_asking (e ∷ own) = if is_abort e.act then false else keeps_asking own

-- the wait closure of the party's call under way has answered Abort
abbrev pub HasAborted : {T : Type 0} → ℕ → List (Event T) → Type 0
HasAborted party past = MatchOption (call_of party past) ⊥ (λ c. keeps_asking c.own ≡ false)

-- The writes of others.

-- an act that puts a value into the word
abbrev pub is_write : {T : Type 0} → Word → Act T → Bool
is_write word (Act.Store w put) = same_word w word
is_write word (Act.Swap w old put) = same_word w word
is_write word (Act.Add w old put) = same_word w word
is_write word (Act.Exchange w from to found done) = same_word w word && done
is_write word other = false

-- another party wrote the word since the party's last sight of it in its latest call
abbrev pub OtherWroteSinceSight : {T : Type 0} → Word → ℕ → List (Event T) → Type 0
OtherWroteSinceSight word party [] = ⊥
OtherWroteSinceSight word party (e ∷ past) =
    MatchBool (e.party == party)
    (MatchBool (is_sight word e.act) ⊥ (MatchBool (is_beginning e.act) ⊥ (OtherWroteSinceSight word party past)))
    (MatchBool (is_write word e.act) (Unit {0}) (OtherWroteSinceSight word party past))

-- an exchange of the word by the party's latest call failed, and another party wrote the word since the call's sight before it
abbrev pub HasMissed : {T : Type 0} → Word → ℕ → List (Event T) → Type 0
HasMissed word party [] = ⊥
HasMissed word party (e ∷ past) =
    MatchBool (e.party == party)
    (MatchBool (is_sight word e.act && is_failure e.act) (OtherWroteSinceSight word party past)
    (MatchBool (is_beginning e.act) ⊥ (HasMissed word party past)))
    (HasMissed word party past)

-- How often a call spun: its acts that tried in vain, and after which it went on by itself.

abbrev pub goes_on : {T : Type 0} → Then T → Bool
goes_on Then.GoesOn = true
goes_on other = false

abbrev pub stands_at_wait : {T : Type 0} → Then T → Bool
stands_at_wait (Then.Waits seen) = true
stands_at_wait other = false

abbrev pub spins_in : {T : Type 0} → (Act T → Bool) → List (Event T) → ℕ
spins_in in_vain [] = 0
spins_in in_vain (e ∷ own) = (if (in_vain e.act && goes_on e.then) then 1 else 0) + spins_in in_vain own

-- how often a call stood at its wait closure
abbrev pub stands_in : {T : Type 0} → List (Event T) → ℕ
stands_in [] = 0
stands_in (e ∷ own) = (if stands_at_wait e.then then 1 else 0) + stands_in own

abbrev pub is_exchange : {T : Type 0} → Act T → Bool
is_exchange (Act.Exchange word from to found done) = true
is_exchange act = false

abbrev pub exchanges_in : {T : Type 0} → List (Event T) → ℕ
exchanges_in [] = 0
exchanges_in (e ∷ own) = (if is_exchange e.act then 1 else 0) + exchanges_in own

-- Acts of a kind.

-- an exchange of the word that is done
abbrev pub is_done_exchange : {T : Type 0} → Word → Act T → Bool
is_done_exchange word (Act.Exchange w from to found done) = same_word w word && done
is_done_exchange word act = false

-- how many acts of a kind there are
abbrev pub acts_in : {T : Type 0} → (Act T → Bool) → List (Event T) → ℕ
acts_in is_it [] = 0
acts_in is_it (e ∷ past) = (if is_it e.act then 1 else 0) + acts_in is_it past

-- the latest of them
abbrev pub last_of : {T : Type 0} → (Act T → Bool) → List (Event T) → Option (Act T)
last_of is_it [] = None
last_of is_it (e ∷ own) = if is_it e.act then Some e.act else last_of is_it own
