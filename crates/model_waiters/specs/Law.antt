-- What the count keeps at every prefix of every run: it is the number of those that wait, and each counts itself in, and later out.
use Rattle.std.specs.Prelude.{◌≡◌, ℕ, ◌+◌, ◌%◌, ◌^◌, ◌-◌, ◌==◌, Bool, false, not, List, [], length, Option, Some, None, if◌then◌else◌}
use Rattle.model_waiters.specs.Names.{Word, Act, Answer, Call, Then, Event, call_of, holds_of, word_in, is_step, acts_in, last_of, is_counted, waiting_after, times}
use Rattle.model_events.specs.Exports.{Keeps, StepsAs, EndsWithin}
use Rattle.model_waiters.specs.Table.{waiters_table}

-- no call of the count is refused
abbrev pub WaitersCause : {T : Type 0} → Call T → ℕ → List (Event T) → Type 0
WaitersCause call party events = ⊥

-- The acts: one more waits, or one less.

abbrev pub is_in : {T : Type 0} → Act T → Bool
is_in (Act.Add Word.Waiters old put) = put == (old + 1) % 2 ^ 64
is_in act = false

abbrev pub is_out : {T : Type 0} → Act T → Bool
is_out (Act.Add Word.Waiters old put) = not (put == (old + 1) % 2 ^ 64)
is_out act = false

-- how often a wait was counted in, and out
abbrev pub ins_in : {T : Type 0} → List (Event T) → ℕ
ins_in past = acts_in is_in past

abbrev pub outs_in : {T : Type 0} → List (Event T) → ℕ
outs_in past = acts_in is_out past

-- Who waits: the calls of `Wait` between their add and their subtraction.
pub record CountsWaits {T : Type 0} (past : List (Event T)) : Type 0 where
  -- the count is how many they are, modulo 2^64
  pub counts : word_in waiters_table past Word.Waiters ≡ length (waiting_after past) % 2 ^ 64
  -- each party once, while its `Wait` is there, and else not
  pub exactly : (party : ℕ) → times party (waiting_after past) ≡ (if is_counted (call_of party past) then 1 else 0)
  -- all that were counted in are there, but those that were counted out
  pub left : ins_in past ≡ outs_in past + length (waiting_after past)

-- The steps.

-- an add to the count, modulo 2^64
abbrev pub AddsToCount : {T : Type 0} → ℕ → Act T → Type 0
AddsToCount more (Act.Add Word.Waiters old put) = put ≡ (old + more) % 2 ^ 64
AddsToCount more act = ⊥

-- a load, whose answer is what it saw
abbrev pub AsksCount : {T : Type 0} → Act T → Then T → Type 0
AsksCount (Act.Load Word.Waiters seen) outcome = outcome ≡ Then.Answers (Answer.Number seen)
AsksCount act outcome = ⊥

-- What follows the latest step of a `Wait`: nothing, and so an add of 1; that, and so the end of what it does while it is counted; that end,
-- and so a subtraction of 1, with which it is done.
abbrev pub WaitsCounted : {T : Type 0} → Option (Act T) → Act T → Then T → Type 0
WaitsCounted None act outcome = AddsToCount 1 act × (outcome ≡ Then.GoesOn)
WaitsCounted (Some (Act.Add word old put)) act outcome = (act ≡ Act.Ended) × (outcome ≡ Then.GoesOn)
WaitsCounted (Some Act.Ended) act outcome = AddsToCount (2 ^ 64 - 1) act × (outcome ≡ Then.Answers Answer.Done)
WaitsCounted (Some other) act outcome = ⊥

-- the next step of each call, by its own before; no other has one
abbrev pub WaitersStep : {T : Type 0} → Call T → List (Event T) → Act T → Then T → Type 0
WaitersStep Call.Value own act outcome = (last_of is_step own ≡ None) × AsksCount act outcome
WaitersStep Call.Wait own act outcome = WaitsCounted (last_of is_step own) act outcome
WaitersStep other own act outcome = ⊥

-- how many steps a call makes
abbrev pub waiters_most : {T : Type 0} → Call T → Option ℕ
waiters_most Call.Value = Some 1
waiters_most Call.Wait = Some 3
waiters_most other = None

-- What the count keeps beside what every object does.
pub record WaitersLaw {T : Type 0} (past : List (Event T)) : Type 0 where
  -- nobody holds it
  pub unheld : holds_of waiters_table past ≡ []
  -- it is the number of those that wait
  pub waiters : CountsWaits past
  -- each step is the one that follows its call's own, and leaves it by what it tells
  pub steps : StepsAs WaitersStep past
  -- a call makes so many steps at most, and answers with the last
  pub within : EndsWithin waiters_most past

abbrev pub KeepsWaiters : {T : Type 0} → List (Event T) → Type 0
KeepsWaiters past = Keeps waiters_table WaitersCause WaitersLaw past
