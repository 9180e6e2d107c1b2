-- A step of a call is the one that what its call has seen asks for. Which that is, and how it leaves the call, each object says for itself, of
-- events alone: by the call, its own events so far, the act, and what comes of it.
use Rattle.std.specs.Prelude.{◌≡◌, ◌<◌, ℕ, nat_lt, ◌&&◌, if◌then◌else◌, List, [], ◌∷◌, Option, Some, None, MatchBool, MatchOption}
use Rattle.model_events.specs.Types.{Call, Word, Act, Event, Answer, Then}
use Rattle.model_events.specs.Past.{call_of}
use Rattle.model_events.specs.Moves.{is_step}
use Rattle.model_events.specs.Sights.{sight_of, keeps_asking, goes_on, acts_in, last_of}

-- the latest event, where it is a step of a call, is that call's next
abbrev pub StepsAs : {T : Type 0} → (Call T → List (Event T) → Act T → Then T → Type 0) → List (Event T) → Type 0
StepsAs Next [] = Unit {0}
StepsAs Next (e ∷ past) = MatchBool (is_step e.act) (MatchOption (call_of e.party past) ⊥ (λ c. Next c.call c.own e.act e.then)) (Unit {0})

-- How a refused call with a wait closure is left, that has spun so often: it goes on by itself until it has spun 10000 times, and then asks its
-- closure; once that has answered Abort it gives up.
abbrev pub refused_waiting : {T : Type 0} → List (Event T) → ℕ → ℕ → Then T
refused_waiting own spins told = if keeps_asking own then (if nat_lt spins 10000 then Then.GoesOn else Then.Waits told) else Then.Answers Answer.Interrupted

-- The latest step of a call, if it goes on from there by itself: none where it has just begun, or has asked its closure.
abbrev pub step_before : {T : Type 0} → List (Event T) → Option (Act T)
step_before [] = None
step_before (e ∷ own) = if is_step e.act && goes_on e.then then Some e.act else None

-- What the latest step of a call told of a word.

abbrev pub seen_by : {T : Type 0} → Word → Option (Act T) → Option ℕ
seen_by word None = None
seen_by word (Some act) = sight_of word act

abbrev pub seen_last : {T : Type 0} → Word → List (Event T) → Option ℕ
seen_last word own = seen_by word (last_of is_step own)

-- A load of the word, and how it leaves its call by what it saw.
abbrev pub Loads : {T : Type 0} → Word → (ℕ → Then T) → Act T → Then T → Type 0
Loads word left (Act.Load w seen) outcome = (w ≡ word) × (outcome ≡ left seen)
Loads word left act outcome = ⊥

-- An exchange of the word from this value to that, and how it leaves its call: where it was done, and where it failed by what it found.
abbrev pub Exchanges : {T : Type 0} → Word → ℕ → ℕ → Then T → (ℕ → Then T) → Act T → Then T → Type 0
Exchanges word old new taken missed (Act.Exchange w from to found done) outcome = (w ≡ word) × (from ≡ old) × (to ≡ new) × (outcome ≡ (if done then taken else missed found))
Exchanges word old new taken missed act outcome = ⊥

-- How long a call may last. One that waits for nobody answers with its last step, whatever the others do: while it is under way it has made fewer than it may make
-- in all. How many these are, each object says by call, and nothing of one that may wait.
abbrev pub EndsWithin : {T : Type 0} → (Call T → Option ℕ) → List (Event T) → Type 0
EndsWithin most past = (party : ℕ) → MatchOption (call_of party past) (Unit {0}) (λ c. MatchOption (most c.call) (Unit {0}) (λ steps. acts_in is_step c.own < steps))
