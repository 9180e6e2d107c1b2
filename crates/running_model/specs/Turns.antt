-- What a wait closure has answered a call under way, and how a call is over.
use Rattle.std.specs.Prelude.{◌≡◌, ℕ, List, Option, None}
use Rattle.running_model.specs.Names.{MutBor, View, WaitAction, Word, Wake, Call, Answer, Then, HoldKind, Intent, After}
use Rattle.atomic_table.specs.declared.shared.Seat.{Seat}
use Rattle.running_model.specs.declared.calling.Ran.{Ran}
use Rattle.running_model.specs.declared.turn.Answered.{Answered}
use Rattle.running_model.specs.declared.seat.SeatAnswered.{SeatAnswered}
use Rattle.running_model.specs.Models.{Model}
use Rattle.running_model.specs.Slots.{Slot, Parties}
use Rattle.running_model.specs.Words.{IsNamed, IsAside}
use Rattle.running_model.specs.Plays.{IsAt, HasEnded}

abbrev pub action_in : {T : Type 0} → Answered T → WaitAction
action_in (Answered.Continue turn) = WaitAction.Continue
action_in (Answered.Abort turn) = WaitAction.Abort

-- the pass of the call
abbrev pub pass_in : {T : Type 0} → Answered T → MutBor T
pass_in (Answered.Continue turn) = turn.pass
pass_in (Answered.Abort turn) = turn.pass

-- what a closure gave that was run
abbrev pub given_by : {Y : Type 0} → Ran Y → Y
given_by ran = ran.given

-- the same of a call whose pass is out with its seat
abbrev pub action_heard : {S T : Type 0} → SeatAnswered S T → WaitAction
action_heard (SeatAnswered.Continue turn) = WaitAction.Continue
action_heard (SeatAnswered.Abort turn) = WaitAction.Abort

abbrev pub seat_in : {S T : Type 0} → SeatAnswered S T → Seat S (View T)
seat_in (SeatAnswered.Continue turn) = turn.seat
seat_in (SeatAnswered.Abort turn) = turn.seat

module _ {V P : Type 0} (m : Model V P) where
  -- Its wake closure, or the closure that it was to end, has been called; and the next that it does is to call another wake closure, of the
  -- word at this index.
  pub record IsToWakeAgain (names : List Word) (handed : P → Word) (index : ℕ) (p : Parties V) : Type 0 where
    pub call : Call V
    pub place : P
    pub hold : Option HoldKind
    pub done : List (Slot V)
    pub at : IsAt m call place Then.GoesOn hold done p
    pub aside : IsAside (m.table.intent place hold)
    pub later : P
    pub goes_on : m.table.after place None ≡ After.At later
    pub who : Wake
    pub wakes : m.table.intent later hold ≡ Intent.Wake who
    pub word : IsNamed names index (handed later)

  -- How a call of the pass is over.

  -- it has been answered
  pub record IsOver (p : Parties V) : Type 0 where
    pub call : Call V
    pub answer : Answer V
    pub hold : Option HoldKind
    pub done : List (Slot V)
    pub ended : HasEnded m call answer hold done p

  -- it is answered once it has made the step on no word at which it is
  pub record IsOverAside (p : Parties V) : Type 0 where
    pub call : Call V
    pub place : P
    pub hold : Option HoldKind
    pub done : List (Slot V)
    pub at : IsAt m call place Then.GoesOn hold done p
    pub aside : IsAside (m.table.intent place hold)
    pub answer : Answer V
    pub ends : m.table.after place None ≡ After.Ends answer

  -- and once it has made the next such step, too
  pub record IsOverAfterTwo (p : Parties V) : Type 0 where
    pub call : Call V
    pub place : P
    pub hold : Option HoldKind
    pub done : List (Slot V)
    pub at : IsAt m call place Then.GoesOn hold done p
    pub aside : IsAside (m.table.intent place hold)
    pub later : P
    pub goes_on : m.table.after place None ≡ After.At later
    pub also : IsAside (m.table.intent later hold)
    pub answer : Answer V
    pub ends : m.table.after later None ≡ After.Ends answer
