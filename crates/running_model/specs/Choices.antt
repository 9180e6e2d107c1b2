-- What a choice closure has chosen for a call under way.
use Rattle.std.specs.Prelude.{List, Option, Some, None}
use Rattle.running_model.specs.Names.{MutBor, Call, Then, HoldKind}
use Rattle.running_model.specs.declared.choosing.Choice.{Choice}
use Rattle.running_model.specs.Models.{Model}
use Rattle.running_model.specs.Slots.{Slot, Parties}
use Rattle.running_model.specs.Plays.{IsAt}

module _ {T V : Type 0} where
  abbrev pub choice_in : Choice T V → Option V
  choice_in (Choice.Value turn) = Some turn.value
  choice_in (Choice.Nothing turn) = None

  -- the pass of the call
  abbrev pub pass_choosing : Choice T V → MutBor T
  pass_choosing (Choice.Value turn) = turn.pass
  pass_choosing (Choice.Nothing turn) = turn.pass

-- a call of the pass stands at its choice closure, which is to be told this
pub record StandsToChoose {V P : Type 0} (m : Model V P) (told : V) (p : Parties V) : Type 0 where
  pub call : Call V
  pub place : P
  pub hold : Option HoldKind
  pub done : List (Slot V)
  pub at : IsAt m call place (Then.Chooses told) hold done p
