-- A model, and what is known of every run of it.
use Rattle.std.specs.Prelude.{List}
use Rattle.running_model.specs.Names.{Event, Arithmetic, Table}

-- The steps of an object over values of V: P is the type of the places of its calls.
pub record Model (V P : Type 0) : Type 1 where
  pub arithmetic : Arithmetic V
  pub table : Table V P
  -- what holds at every prefix of every run
  pub law : List (Event V) → Type 0
