-- What a machine changes at a turn of a party, and at none.
use Rattle.std.specs.Prelude.{◌≡◌, ℕ, ◌+◌, ◌-◌, ◌^◌, min, slice_get, slice_set, Some, Ok, Err}
use Rattle.sync_steps.specs.Names.{Act, Event, Input, StepFault, Word, Arithmetic, word_after, failures_by, event, word_at}
use Rattle.sync_steps.specs.declared.steps.place.Party.{Party}
use Rattle.sync_steps.specs.Machine.Turns.{Turn}
use Rattle.sync_steps.specs.Machine.{Configuration}
use Rattle.sync_steps.specs.Machine.Turns.{turn_at}

-- what the act puts is written, and a failed exchange is counted
pub record HasWritten {T : Type 0} (act : Act T) (old new : Configuration T) : Type 0 where
  pub object : new.object ≡ old.object
  pub parties : new.parties ≡ old.parties
  pub words : (word : Word) → word_at new.words word ≡ word_after word act (word_at old.words word)
  pub failed : (count : ℕ) → old.failed ≡ min count (2 ^ 64 - 1) → new.failed ≡ min (failures_by act + count) (2 ^ 64 - 1)

pub record Applies {T : Type 0} (party : ℕ) (turn : Turn T) (old new : Configuration T) : Type 0 where
  pub object : new.object ≡ old.object
  pub parties : new.parties ≡ slice_set old.parties party turn.party
  pub words : (word : Word) → word_at new.words word ≡ word_after word turn.act (word_at old.words word)
  pub failed : (count : ℕ) → old.failed ≡ min count (2 ^ 64 - 1) → new.failed ≡ min (failures_by turn.act + count) (2 ^ 64 - 1)

-- the party had a turn at the input, and the machine made it
pub record HasTurned {T : Type 0} (z : Arithmetic T) (party : ℕ) (input : Input T) (old new : Configuration T) (made : Event T) : Type 0 where
  pub found : Party T
  pub there : slice_get old.parties party ≡ Some found
  pub turn : Turn T
  pub is : turn_at z old.object found (word_at old.words) input ≡ Ok turn
  pub made_is : made ≡ event party turn.act turn.outcome
  pub applied : Applies party turn old new

-- the party has a fault in its place
pub record HasRefused {T : Type 0} (z : Arithmetic T) (party : ℕ) (input : Input T) (old : Configuration T) (fault : StepFault) : Type 0 where
  pub found : Party T
  pub there : slice_get old.parties party ≡ Some found
  pub is : turn_at z old.object found (word_at old.words) input ≡ Err fault
