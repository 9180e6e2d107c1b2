-- What a once keeps at every prefix of every run: one closure runs, once, and ends before any call tells of it.
use Rattle.std.specs.Prelude.{◌≡◌, ◌≤◌, ℕ, ◌==◌, Bool, true, false, Option, Some, None, List, [], ◌∷◌, MatchBool}
use Rattle.model_once.specs.Names.{Word, Act, Answer, Call, Then, Event, holds_of, word_in, is_step, last_of, StepsAs, EndsWithin, Keeps}
use Rattle.model_once.specs.Closures.{begins_in, ends_in, EndsItsOwn, WaitsForAnother, StaysTwo, TellsState, has_tried, RunsOnce}
use Rattle.model_once.specs.Table.{once_table}

-- no call of a once is refused
abbrev pub OnceCause : {T : Type 0} → Call T → ℕ → List (Event T) → Type 0
OnceCause call party events = ⊥

-- The steps.

-- a load, whose answer is whether it saw 2
abbrev pub AsksForTwo : {T : Type 0} → Act T → Then T → Type 0
AsksForTwo (Act.Load Word.State seen) outcome = outcome ≡ Then.Answers (Answer.Flag (seen == 2))
AsksForTwo act outcome = ⊥

-- the next step of each call, by its own before; no other has one
abbrev pub OnceStep : {T : Type 0} → Call T → List (Event T) → Act T → Then T → Type 0
OnceStep Call.IsCompleted own act outcome = (last_of is_step own ≡ None) × AsksForTwo act outcome
OnceStep Call.CallOnce own act outcome = RunsOnce (Then.Answers Answer.Done) (has_tried own) (last_of is_step own) act outcome
OnceStep other own act outcome = ⊥

-- how many steps a call makes that waits for nobody
abbrev pub once_most : {T : Type 0} → Call T → Option ℕ
once_most Call.IsCompleted = Some 1
once_most other = None

-- The answers.

-- `Done` and `true` tell that the closure has ended
abbrev pub tells_end : {T : Type 0} → Then T → Bool
tells_end (Then.Answers Answer.Done) = true
tells_end (Then.Answers (Answer.Flag flag)) = flag
tells_end other = false

abbrev pub AnswersAfterEnd : {T : Type 0} → List (Event T) → Type 0
AnswersAfterEnd [] = Unit {0}
AnswersAfterEnd (e ∷ past) = MatchBool (tells_end e.then) (ends_in past ≡ 1) (Unit {0})

abbrev pub is_done : {T : Type 0} → Then T → Bool
is_done (Then.Answers Answer.Done) = true
is_done other = false

-- the latest event answers `Done` only where it leaves the word at 2
abbrev pub DoneAtTwo : {T : Type 0} → List (Event T) → Type 0
DoneAtTwo [] = Unit {0}
DoneAtTwo (e ∷ past) = MatchBool (is_done e.then) (word_in once_table (e ∷ past) Word.State ≡ 2) (Unit {0})

-- What a once keeps beside what every object does.
pub record OnceLaw {T : Type 0} (past : List (Event T)) : Type 0 where
  -- nobody holds a once
  pub unheld : holds_of once_table past ≡ []
  -- one closure begins at most
  pub one : begins_in past ≤ 1
  -- no more end than began
  pub ends : ends_in past ≤ begins_in past
  -- it ends in the call that began it
  pub own : EndsItsOwn past
  -- each step is the one that follows its call's own, and leaves it by what it tells
  pub steps : StepsAs OnceStep past
  -- a call that waits for nobody makes so many steps at most, and answers with the last
  pub within : EndsWithin once_most past
  -- a call waits only for a closure that has begun
  pub waits : WaitsForAnother past
  -- `Done` and `true` come after its end
  pub answers : AnswersAfterEnd past
  -- once `Done` has been answered the word is 2
  pub done : DoneAtTwo past
  -- and 2 it stays
  pub stays : StaysTwo once_table past
  pub state : TellsState once_table past

abbrev pub KeepsOnce : {T : Type 0} → List (Event T) → Type 0
KeepsOnce past = Keeps once_table OnceCause OnceLaw past
