-- What a primitive is: where its calls begin, what the step at each place is to do, and where a call goes on from there.
use Rattle.std.specs.Prelude.{ℕ, Bool, Option}
use Rattle.model_events.specs.Types.{WaitAction, Word, Call, HoldKind, Intent, After}

-- P is the type of its places
pub record Table (T P : Type 0) : Type 0 where
  -- what a word holds before the first event
  pub opening : Word → ℕ
  -- where a call begins, if the primitive has it
  pub begins : Call T → Option P
  -- whether only a party with a hold may begin it
  pub needs_hold : Call T → Bool
  -- the hold that a call takes where its exchange of the lock's word puts the second value in the place of the first
  pub grant : Call T → ℕ → ℕ → Option HoldKind
  -- what the step at a place is to do, by its party's hold
  pub intent : P → Option HoldKind → Intent T
  -- how the call goes on, by what the step told
  pub after : P → Option ℕ → After T P
  -- where it goes on once its wait or choice closure has answered
  pub answered : P → WaitAction → P
  pub chosen : P → Option T → P
