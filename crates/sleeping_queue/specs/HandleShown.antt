-- What contracts see of a handle: the queue that it is of, and what a call changes in its pass.
use Rattle.std.specs.Prelude.{◌≡◌, ℕ, min}
use Rattle.running_condvar.specs.CondShown.{HasNotified}
use Rattle.running_passes.specs.declared.part.Part.{Part}
use Rattle.running_guarded.specs.GuardedShown.{part_of}
use Rattle.job_queue.specs.QueueShown as passes
use Rattle.job_queue.specs.declared.pass.QueuePass.{QueuePass}
use Rattle.job_queue.specs.declared.queue.QueueOf.{QueueOf}
use Rattle.job_queue.specs.declared.state.QueueState.{QueueState}
use Rattle.sleeping_queue.specs.declared.SleepingQueue.{SleepingQueue}
use Rattle.sleeping_queue.specs.declared.QueueHandle.{QueueHandle}

-- it went in once, and notified one that waits
pub record HasPut (p q : QueuePass) : Type 0 where
  pub once : passes.HasGoneInOnce p q
  pub notified : HasNotified (λ waiting. min 1 waiting) (passes.changed_in p) (passes.changed_in q)

-- it went in once, and notified nobody
pub record HasPutNothing (p q : QueuePass) : Type 0 where
  pub once : passes.HasGoneInOnce p q
  pub unnotified : passes.changed_in q ≡ passes.changed_in p

-- it went in once, and notified all that wait
pub record HasClosed (p q : QueuePass) : Type 0 where
  pub once : passes.HasGoneInOnce p q
  pub notified : HasNotified (λ waiting. waiting) (passes.changed_in p) (passes.changed_in q)

module _ {T A : Type 0} where
  -- the queue itself, whose pass is the object's
  abbrev pub below : SleepingQueue T A → QueueOf (QueueState T A) A
  below o = o.queue

  -- it is that queue's, and one part
  abbrev pub IsSleepingPass : SleepingQueue T A → QueuePass → Type 0
  IsSleepingPass o p = passes.IsQueuePass (below o) p × passes.IsOnePart p

  -- the queue that it is a handle of, and its pass
  abbrev pub object_of : QueueHandle T A → SleepingQueue T A
  object_of h = h.of.now

  abbrev pub pass_of : QueueHandle T A → QueuePass
  pass_of h = h.pass

  -- which part of all passes that is
  abbrev pub part_with : QueueHandle T A → Part
  part_with h = part_of (passes.state_in (pass_of h))

  -- still a handle of the same queue, and its pass has changed so
  pub record PassHas (Changed : QueuePass → QueuePass → Type 0) (before after : QueueHandle T A) : Type 0 where
    pub object : object_of after ≡ object_of before
    pub changed : Changed (pass_of before) (pass_of after)

  -- so, by a take: it waited so often, and went in once more than that
  pub record HasTaken (before after : QueueHandle T A) : Type 0 where
    pub object : object_of after ≡ object_of before
    pub waits : ℕ
    pub went_in : passes.HasGoneIn (below (object_of before)) waits (pass_of before) (pass_of after)
