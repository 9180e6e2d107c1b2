-- What contracts see of a handle: the barrier that it is of, and what a call changes in its pass.
use Rattle.std.specs.Prelude.{◌≡◌, ℕ, ◌<◌}
use Rattle.model_events.specs.declared.event.Answer.TheVariants as answers
use Rattle.running_model.specs.Counts.{HasSeen}
use Rattle.running_barrier.specs.BarrierShown as passes
use Rattle.running_barrier.specs.BarrierShown.{BarrierPass}
use Rattle.running_passes.specs.declared.part.Part.{Part}
use Rattle.running_passes.specs.Passes.{part_of}
use Rattle.running_barrier.specs.declared.Barrier.{Barrier}
use Rattle.running_model.specs.declared.wait.OwnWords.{OwnWords}
use Rattle.sleeping_barrier.specs.declared.SleepingBarrier.{SleepingBarrier}
use Rattle.sleeping_barrier.specs.declared.BarrierHandle.{BarrierHandle}

-- of a barrier for so many

-- its round is full: it was answered so by the model, or it filled the round itself
pub record HasPassed (waiters : ℕ) (p q : BarrierPass) : Type 0 where
  pub passed : passes.HasPassed p q
  pub played : passes.opened_of q ≡ passes.opened_of p → passes.HasPlayed waiters answers.Ok p q
  pub filled : passes.opened_of p < passes.opened_of q → passes.HasFilled waiters p q

-- it saw that there is no room for an arrival
pub record HasSeenFull (waiters : ℕ) (p q : BarrierPass) : Type 0 where
  pub refused : HasSeen 0 p q
  pub played : passes.HasPlayed waiters answers.Full p q

module _ {A : Type 0} where
  -- the barrier itself, whose pass is the object's
  abbrev pub below : SleepingBarrier A → Barrier A OwnWords
  below o = o.barrier

  abbrev pub IsSleepingPass : SleepingBarrier A → BarrierPass → Type 0
  IsSleepingPass o p = passes.IsBarrierPass (below o) p

  -- how many it was made for
  abbrev pub waiters_of : SleepingBarrier A → ℕ
  waiters_of o = passes.waiters_of (below o)

  -- the barrier that it is a handle of, and its pass
  abbrev pub object_of : BarrierHandle A → SleepingBarrier A
  object_of h = h.of.now

  abbrev pub pass_of : BarrierHandle A → BarrierPass
  pass_of h = h.pass

  -- which part of all passes that is
  abbrev pub part_with : BarrierHandle A → Part
  part_with h = part_of (pass_of h)

  -- still a handle of the same barrier, and its pass has changed so
  pub record PassHas (Changed : ℕ → BarrierPass → BarrierPass → Type 0) (before after : BarrierHandle A) : Type 0 where
    pub object : object_of after ≡ object_of before
    pub changed : Changed (waiters_of (object_of before)) (pass_of before) (pass_of after)
