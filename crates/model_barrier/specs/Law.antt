-- What a barrier keeps at every prefix of every run: rounds of n arrivals, each of which is full before one of its calls answers `Ok`.
use Rattle.std.specs.Prelude.{◌≡◌, ◌≢◌, ℕ, ◌+◌, ◌%◌, ◌^◌, ◌<◌, ◌==◌, ◌↔◌, nat_lt, Bool, true, false, Option, Some, None, List, [], ◌∷◌, MatchBool, MatchOption, if◌then◌else◌}
use Rattle.model_barrier.specs.Names.{Word, Call, Act, Wake, Answer, Then, Event, call_of, holds_of, word_in, is_step, is_sight, AtLast, spins_in, last_of, StepsAs, seen_last, Loads, Exchanges, SpinCount, sight_at, Waiting, WaitsAs, Keeps}
use Rattle.model_barrier.specs.Rounds.{epoch_of, count_of, with_arrival, is_arrival, arrivals_in, round_of, full_rounds, IsFull, CountsArrivals}
use Rattle.model_barrier.specs.Table.{barrier_table}

-- `Wait`: n is 0.
abbrev pub BarrierCause : {T : Type 0} → ℕ → Call T → ℕ → List (Event T) → Type 0
BarrierCause n Call.Wait party events = n ≡ 0
BarrierCause n other party events = ⊥

abbrev pub is_ok : {T : Type 0} → Then T → Bool
is_ok (Then.Answers Answer.Ok) = true
is_ok other = false

-- at a barrier of 0 nobody has arrived, and the word is 0
abbrev pub NobodyAtZero : ℕ → ℕ → ℕ → Type 0
NobodyAtZero n arrivals word = n ≡ 0 → (arrivals ≡ 0) × (word ≡ 0)

-- the latest event answers `Ok` only where the call's own arrival stands in a round that was full before
abbrev pub OkAfterFullRound : {T : Type 0} → ℕ → List (Event T) → Type 0
OkAfterFullRound n [] = Unit {0}
OkAfterFullRound n (e ∷ past) = MatchBool (is_ok e.then) (AtLast is_arrival (λ before. IsFull n (round_of n (arrivals_in before)) past) e.party past) (Unit {0})

-- the party's call under way has arrived
abbrev pub HasArrived : {T : Type 0} → ℕ → List (Event T) → Type 0
HasArrived party past = MatchOption (call_of party past) ⊥ (λ c. 0 < arrivals_in c.own)

-- Exact: a look of a call that has arrived answers `Ok` exactly where the number of full rounds is, modulo 2 ^ 32, another than that of the call's own round.
abbrev pub LeavesByItsLook : {T : Type 0} → ℕ → List (Event T) → Type 0
LeavesByItsLook n [] = Unit {0}
LeavesByItsLook n (e ∷ past) =
    is_sight Word.State e.act ≡ true →
    HasArrived e.party past →
    AtLast is_arrival (λ before. (e.then ≡ Then.Answers Answer.Ok) ↔ (full_rounds n past % 2 ^ 32 ≢ round_of n (arrivals_in before) % 2 ^ 32)) e.party past

abbrev pub is_wake_of_all : {T : Type 0} → Act T → Bool
is_wake_of_all (Act.Woke Wake.All) = true
is_wake_of_all act = false

-- who fills a round wakes all: the latest event answers `Ok` as it does so, or the call's own arrival did not make n
abbrev pub FillerWakesAll : {T : Type 0} → ℕ → List (Event T) → Type 0
FillerWakesAll n [] = Unit {0}
FillerWakesAll n (e ∷ past) =
    MatchBool (is_ok e.then)
    (MatchBool (is_wake_of_all e.act) (Unit {0}) (AtLast is_arrival (λ before. arrivals_in before % n + 1 ≢ n) e.party past))
    (Unit {0})

abbrev pub is_wake : {T : Type 0} → Act T → Bool
is_wake (Act.Woke wake) = true
is_wake act = false

-- only who fills a round wakes: the latest event is a wake only where the call's own arrival made n, and then it wakes all and the call answers `Ok`
abbrev pub WakesAsFiller : {T : Type 0} → ℕ → List (Event T) → Type 0
WakesAsFiller n [] = Unit {0}
WakesAsFiller n (e ∷ past) =
    MatchBool (is_wake e.act)
    ((is_wake_of_all e.act ≡ true) × (e.then ≡ Then.Answers Answer.Ok) × AtLast is_arrival (λ before. arrivals_in before % n + 1 ≡ n) e.party past)
    (Unit {0})

-- Exact: an event that sees the word is refused exactly where n is 0.
abbrev pub IsExactRefusal : {T : Type 0} → ℕ → List (Event T) → Type 0
IsExactRefusal n [] = Unit {0}
IsExactRefusal n (e ∷ past) = is_sight Word.State e.act ≡ true → ((e.then ≡ Then.Answers Answer.Full) ↔ (n ≡ 0))

-- a call's own events since its arrival
abbrev pub since_arrival : {T : Type 0} → List (Event T) → List (Event T)
since_arrival [] = []
since_arrival (e ∷ own) = if is_arrival e.act then [] else e ∷ since_arrival own

-- what a call has counted since its arrival; one that has not arrived neither spins nor asks
abbrev pub once_arrived : {T : Type 0} → (List (Event T) → ℕ) → SpinCount T
once_arrived counted call own = if arrivals_in own == 0 then 0 else counted (since_arrival own)

-- its spins: the looks after which it went on by itself
abbrev pub looks_on : {T : Type 0} → SpinCount T
looks_on call own = once_arrived (spins_in (is_sight Word.State)) call own

-- its steps of any kind after which it went on by itself
abbrev pub steps_on : {T : Type 0} → SpinCount T
steps_on call own = once_arrived (spins_in is_step) call own

-- how they wait
abbrev pub barrier_waiting : {T : Type 0} → Waiting T
barrier_waiting = record { spins = looks_on; goes_on = steps_on; refusing = sight_at Word.State; wait = λ call own. [] }

-- What a call does next, by its own steps so far, and how it is left by what that tells.

-- a look of a call that has not arrived: where n have, it is refused
abbrev pub looked : {T : Type 0} → ℕ → ℕ → Then T
looked n v = if nat_lt (count_of v) n then Then.GoesOn else Then.Answers Answer.Full

-- a look of a call that arrived from v and has spun so often: at another epoch than that of its arrival it passes; else it goes on by itself until it has spun
-- 10000 times, and then asks its closure
abbrev pub stayed : {T : Type 0} → ℕ → ℕ → ℕ → Then T
stayed v spins w = if epoch_of w == epoch_of v then (if nat_lt spins 10000 then Then.GoesOn else Then.Waits w) else Then.Answers Answer.Ok

-- the call that has filled its round wakes all and passes; any other that has arrived looks
abbrev pub HasArrivedFrom : {T : Type 0} → ℕ → ℕ → ℕ → Act T → Then T → Type 0
HasArrivedFrom n v spins act outcome = MatchBool (count_of v + 1 == n) ((act ≡ Act.Woke Wake.All) × (outcome ≡ Then.Answers Answer.Ok)) (Loads Word.State (stayed v spins) act outcome)

-- before that it looks, and then exchanges what it saw for one arrival more; where that failed, what it found is a look
abbrev pub Arrives : {T : Type 0} → ℕ → Option ℕ → Act T → Then T → Type 0
Arrives n None act outcome = Loads Word.State (looked n) act outcome
Arrives n (Some v) act outcome = Exchanges Word.State v (with_arrival n v) Then.GoesOn (looked n) act outcome

-- the value from which an exchange was
abbrev pub from_of : {T : Type 0} → Option (Act T) → Option ℕ
from_of (Some (Act.Exchange word from to found done)) = Some from
from_of other = None

-- the next step of a `Wait`, by whether it has arrived, and by what its latest step saw; no other call has one
abbrev pub BarrierStep : {T : Type 0} → ℕ → Call T → List (Event T) → Act T → Then T → Type 0
BarrierStep n Call.Wait own act outcome =
    MatchOption (from_of (last_of is_arrival own))
    (Arrives n (seen_last Word.State own) act outcome)
    (λ v. HasArrivedFrom n v (spins_in (is_sight Word.State) (since_arrival own)) act outcome)
BarrierStep n other own act outcome = ⊥

-- What a barrier keeps beside what every object does.
pub record BarrierLaw {T : Type 0} (n : ℕ) (past : List (Event T)) : Type 0 where
  -- nobody holds a barrier
  pub unheld : holds_of (barrier_table n) past ≡ []
  -- the word tells the rounds that are full, modulo 2 ^ 32, and the arrivals of the next one
  pub counts : CountsArrivals n (arrivals_in past) (word_in (barrier_table n) past Word.State)
  -- nobody arrives at a barrier of 0, and its word stays 0
  pub nobody : NobodyAtZero n (arrivals_in past) (word_in (barrier_table n) past Word.State)
  -- `Ok` comes after the call's own round is full
  pub passes : OkAfterFullRound n past
  -- a look of a call that has arrived answers `Ok` exactly where it sees another epoch than that of its arrival
  pub leaves : LeavesByItsLook n past
  -- the call that filled a round answers as it wakes all
  pub wakes : FillerWakesAll n past
  -- and no other call wakes
  pub alone : WakesAsFiller n past
  -- a barrier of 0 refuses each call, and no other refuses any
  pub exact : IsExactRefusal n past
  -- a `Wait` asks its closure after 10000 spins, which are looks since its arrival, and tells it the whole word seen; each question is a wait of its own
  pub waits : WaitsAs barrier_waiting past
  -- each step is the one that follows its call's own, and leaves it by what it tells
  pub steps : StepsAs (BarrierStep n) past

abbrev pub KeepsBarrier : {T : Type 0} → ℕ → List (Event T) → Type 0
KeepsBarrier n past = Keeps (barrier_table n) (BarrierCause n) (BarrierLaw n) past
