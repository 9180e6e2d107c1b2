-- Strides: equal events in a row, as a call makes them that spins.
use Rattle.std.specs.Prelude.{◌≡◌, ℕ, ◌+◌, ◌*◌, ◌-◌, ◌^◌, ◌<◌, ◌≤◌, ◌==◌, ◌&&◌, not, min, Bool, true, false, List, replicate, slice_get, slice_set, Option, Some, None}
use Rattle.sync_steps.specs.Names.{Act, Event, Input, Then, Word, Arithmetic, event, failures_by, carried_out, value_told, word_at}
use Rattle.sync_steps.specs.declared.steps.machine.stride.Stride.{Stride}
use Rattle.sync_steps.specs.declared.steps.place.Doing.{Doing}
use Rattle.sync_steps.specs.declared.steps.place.Party.{Party}
use Rattle.sync_steps.specs.Machine.{Configuration, Plays}
use Rattle.sync_steps.specs.Machine.Places.{intent_at, spins_at, spun_at}

-- so many steps of a party
abbrev pub steps_of : {T : Type 0} → ℕ → ℕ → List (ℕ × Input T)
steps_of party times = replicate times (party, Input.Go)

-- So many steps of the party were played, whatever run stood at the machine before, and each gave this event.
abbrev pub Strides : {T : Type 0} → Arithmetic T → Configuration T → ℕ → Event T → ℕ → Configuration T → Type 0
Strides z old party event times new = Plays z (steps_of party times) old (replicate times event) new

-- the act leaves all words and holds as they are: a load, an exchange that failed, or a swap of a value that is not 0 for itself
abbrev pub is_quiet : {T : Type 0} → Act T → Bool
is_quiet (Act.Load word seen) = true
is_quiet (Act.Exchange word from to found done) = not done
is_quiet (Act.Swap word old put) = (old == put) && not (old == 0)
is_quiet act = false

-- the event leaves all words and holds as they are, and its call goes on
pub record IsQuiet {T : Type 0} (e : Event T) : Type 0 where
  pub act : is_quiet e.act ≡ true
  pub goes_on : e.then ≡ Then.GoesOn

-- What a party and its machine make of a spin: what `src/steps/stride.rt` answers.

-- the party after so many spins of this call
abbrev pub spun_party : {T : Type 0} → Party T → Doing T → ℕ → Party T
spun_party party doing n = record { doing = Some (record { call = doing.call; place = spun_at n doing.place; stands = None }); hold = party.hold }

-- the party's call goes on by itself, and its step does this so many times in a row, and leaves the party so
pub record SpinsBy {T : Type 0} (z : Arithmetic T) (memory : Word → ℕ) (old new : Party T) (act : Act T) (times : ℕ) : Type 0 where
  pub doing : Doing T
  pub has : old.doing ≡ Some doing
  pub goes : doing.stands ≡ None
  pub act_is : act ≡ carried_out (intent_at z doing.place old.hold) memory
  pub quiet : is_quiet act ≡ true
  pub often : 1 < times
  pub most : times ≤ spins_at doing.place (value_told act)
  pub new_is : new ≡ spun_party old doing times

abbrev pub SpinsOr : {T : Type 0} → Arithmetic T → (Word → ℕ) → ℕ → Party T → Party T → Option (Act T × ℕ) → Type 0
SpinsOr z memory limit old new None = new ≡ old
SpinsOr z memory limit old new (Some spin) = SpinsBy z memory old new spin.0 spin.1 × (spin.1 ≤ limit)

-- a party of the machine spun so, and nothing else was changed but the count of exchanges that failed
pub record HasSpun {T : Type 0} (z : Arithmetic T) (party : ℕ) (made : Event T) (times : ℕ) (old new : Configuration T) : Type 0 where
  pub found : Party T
  pub there : slice_get old.parties party ≡ Some found
  pub after : Party T
  pub act : Act T
  pub spins : SpinsBy z (word_at old.words) found after act times
  pub made_is : made ≡ event party act Then.GoesOn
  pub object : new.object ≡ old.object
  pub parties : new.parties ≡ slice_set old.parties party after
  pub words : new.words ≡ old.words
  pub failed : new.failed ≡ min (times * failures_by act + old.failed) (2 ^ 64 - 1)

-- or it does not spin, and nothing was changed
abbrev pub HasSpunOr : {T : Type 0} → Arithmetic T → ℕ → ℕ → Configuration T → Configuration T → Option (Stride T) → Type 0
HasSpunOr z party limit old new None = new ≡ old
HasSpunOr z party limit old new (Some stride) = HasSpun z party stride.event stride.times old new × (stride.times ≤ limit)
