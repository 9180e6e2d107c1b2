-- What a lazy value keeps at every prefix of every run: one closure runs, once, and every answer is its value, read after its end.
use Rattle.std.specs.Prelude.{◌≡◌, ◌≤◌, ℕ, ◌==◌, Bool, true, false, List, [], ◌∷◌, Option, Some, None, MatchBool}
use Rattle.model_events.specs.Exports.{holds_of, word_in, is_step, last_of, StepsAs, Keeps}
use Rattle.model_events.specs.declared.{event.Act.Act, event.Answer.Answer, event.Call.Call, event.Event.Event, event.Then.Then, event.Word.Word}
use Rattle.model_once.specs.Closures.{begins_in, ends_in, EndsItsOwn, WaitsForAnother, StaysTwo, TellsState, has_tried, RunsOnce}
use Rattle.model_lazy.specs.Table.{lazy_table}

-- no call of a lazy value is refused
abbrev pub LazyCause : {T : Type 0} → Call T → ℕ → List (Event T) → Type 0
LazyCause call party events = ⊥

-- The answers.

abbrev pub is_read : {T : Type 0} → Act T → Bool
is_read (Act.ReadCell value) = true
is_read act = false

-- the latest event reads v from the cell and answers it, where the word is 2 and the closure has ended; or its call goes on
abbrev pub AnswersWhatItReads : {T : Type 0} → T → List (Event T) → Type 0
AnswersWhatItReads v [] = Unit {0}
AnswersWhatItReads v (e ∷ past) =
    MatchBool (is_read e.act)
    ((e.act ≡ Act.ReadCell v) × (e.then ≡ Then.Answers (Answer.Value v)) × (word_in (lazy_table v) past Word.State ≡ 2) × (ends_in past ≡ 1))
    (e.then ≡ Then.GoesOn)

-- The steps.

-- it saw the word at 2, or put it there
abbrev pub shows_end : {T : Type 0} → Act T → Bool
shows_end (Act.Load Word.State seen) = seen == 2
shows_end (Act.Store Word.State put) = put == 2
shows_end act = false

-- the call's latest step has shown the end
abbrev pub has_shown : {T : Type 0} → Option (Act T) → Bool
has_shown None = false
has_shown (Some before) = shows_end before

-- The next step of a `Force`, by its own before, where the closure gives v: once a step has shown the end, a read of the cell, which answers what it reads; until then the
-- step of a once, which never ends the call. No other call has one.
abbrev pub LazyStep : {T : Type 0} → T → Call T → List (Event T) → Act T → Then T → Type 0
LazyStep v Call.Force own act outcome =
    MatchBool (has_shown (last_of is_step own))
    ((act ≡ Act.ReadCell v) × (outcome ≡ Then.Answers (Answer.Value v)))
    (RunsOnce Then.GoesOn (has_tried own) (last_of is_step own) act outcome)
LazyStep v other own act outcome = ⊥

-- What a lazy value keeps beside what every object does.
pub record LazyLaw {T : Type 0} (v : T) (past : List (Event T)) : Type 0 where
  -- nobody holds a lazy value
  pub unheld : holds_of (lazy_table v) past ≡ []
  -- one closure begins at most
  pub one : begins_in past ≤ 1
  -- no more end than began
  pub ends : ends_in past ≤ begins_in past
  -- it ends in the call that began it
  pub own : EndsItsOwn past
  -- each step is the one that follows its call's own, and leaves it by what it tells
  pub steps : StepsAs (LazyStep v) past
  -- a call waits only for a closure that has begun
  pub waits : WaitsForAnother past
  -- every answer is v, read from the cell after the closure's end; an event that reads nothing answers nothing
  pub answers : AnswersWhatItReads v past
  -- a word that is 2 stays so
  pub stays : StaysTwo (lazy_table v) past
  pub state : TellsState (lazy_table v) past

abbrev pub KeepsLazy : {T : Type 0} → T → List (Event T) → Type 0
KeepsLazy v past = Keeps (lazy_table v) LazyCause (LazyLaw v) past
