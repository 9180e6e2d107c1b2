-- What contracts see of a queue and its pass, and what a call changes in a pass.
use Rattle.std.specs.Prelude.{◌≡◌, ℕ, suc, ◌+◌, ◌≤◌}
use Rattle.running_passes.specs.Views.{left_view, right_view, joined_view}
use Rattle.running_model.specs.Passes.{core_played, both_played}
use Rattle.running_for_one.specs.ForOne.{no_holds}
use Rattle.running_semaphore.specs.Semaphore.{no_permits, both_permits}
use Rattle.running_condvar.specs.Cond.{no_waits, both_waits}
use Rattle.running_spin_lock.specs.ValueRule.{both_held}
use Rattle.running_condvar.specs.Often.{HasWaitedOften}
use Rattle.running_condvar.specs.CondShown as conds
use Rattle.running_condvar.specs.declared.CondPass.{CondPass}
use Rattle.running_guarded.specs.GuardedShown as guards
use Rattle.running_guarded.specs.GuardedSteps.{PlaysBoth}
use Rattle.running_guarded.specs.declared.pass.GuardedPass.{GuardedPass}
use Rattle.running_passes.specs.Passes as passes
use Rattle.running_passes.specs.Parts.{half, IsWhole, IsSamePart, IsAgain, AddUp}
use Rattle.running_guarded.specs.GuardedWord as locks
use Rattle.running_model.specs.Shown.{object_shown, index_shown}
use Rattle.job_queue.specs.declared.word.PartWord.TheVariants.{State, Permits}
use Rattle.job_queue.specs.declared.word.QueueWord.{QueueWord}
use Rattle.job_queue.specs.declared.pass.QueuePass.{QueuePass}
use Rattle.job_queue.specs.declared.queue.QueueOf.{QueueOf}

-- the two passes inside: that of the state, and that of the condition variable
abbrev pub state_in : QueuePass → GuardedPass
state_in p = p.state

abbrev pub changed_in : QueuePass → CondPass
changed_in p = p.changed

abbrev pub IsQueuePass : {S A : Type 0} → QueueOf S A → QueuePass → Type 0
IsQueuePass q p = guards.IsGuardedPass q.state (state_in p) × conds.IsCondPass q.changed (changed_in p)

-- the word of this queue's state, or of its permits, as closures see it
abbrev pub IsStateWord : {S A : Type 0} → QueueOf S A → QueueWord S → Type 0
IsStateWord q seen = elim seen.word [ State word ↦ locks.object_shown word.now ≡ guards.id_of q.state | Permits word ↦ ⊥ ]

abbrev pub IsPermitsWord : {S A : Type 0} → QueueOf S A → QueueWord S → Type 0
IsPermitsWord q seen = elim seen.word [ State word ↦ ⊥ | Permits word ↦ conds.IsPermitsWord q.changed (object_shown word.now) (index_shown word.now) ]

-- It may have put, taken, waited and closed. A helper, a loop and a closure carry this one fact.
pub record HasStayed (p q : QueuePass) : Type 0 where
  pub state : guards.HasStayed (state_in p) (state_in q)
  pub changed : conds.HasStayed (changed_in p) (changed_in q)

-- it locked the state once, and let it go, by one `Lock` and its `Unlock`, and no other call
pub record HasGoneInOnce (p q : QueuePass) : Type 0 where
  pub once : guards.HasLockedOnce (state_in p) (state_in q)
  pub played : PlaysBoth (guards.view (state_in p)) (guards.view (state_in q))

-- It waited so often, and went in once more than that: each time it locked the state by a `Lock`, and let it go by its `Unlock`. It made no
-- other call of the lock, and none of the permits but a `Wait` each time it waited.
pub record HasGoneIn {S A : Type 0} (queue : QueueOf S A) (waits : ℕ) (p q : QueuePass) : Type 0 where
  pub locked : guards.HasLockedOften (suc waits) (state_in p) (state_in q)
  pub waited : HasWaitedOften queue.changed waits (changed_in p) (changed_in q)

-- it had the state twice at least, and so looked at it again
abbrev pub HasLookedTwice : QueuePass → QueuePass → Type 0
HasLookedTwice p q = guards.grants_of (state_in p) + 2 ≤ guards.grants_of (state_in q)

-- one and other weigh together what p weighs, at each of the objects
pub record PartsAddUp (p one other : QueuePass) : Type 0 where
  pub state : AddUp (guards.part_of (state_in p)) (guards.part_of (state_in one)) (guards.part_of (state_in other))
  pub waits : AddUp (passes.part_of (conds.waits_in (changed_in p))) (passes.part_of (conds.waits_in (changed_in one))) (passes.part_of (conds.waits_in (changed_in other)))
  pub permits : AddUp (passes.part_of (conds.permits_in (changed_in p))) (passes.part_of (conds.permits_in (changed_in one))) (passes.part_of (conds.permits_in (changed_in other)))

-- the pass is the same part of each of the objects, as `new` gives it, and as split and join leave it
abbrev pub IsOnePart : QueuePass → Type 0
IsOnePart p = (passes.part_of (conds.waits_in (changed_in p)) ≡ guards.part_of (state_in p)) × (passes.part_of (conds.permits_in (changed_in p)) ≡ guards.part_of (state_in p))

-- at each of the objects: one counted what p did, and knows it
pub record IsFirstOf (p one : QueuePass) : Type 0 where
  pub state : guards.view (state_in one) ≡ left_view (guards.view (state_in p))
  pub waits : passes.view (conds.waits_in (changed_in one)) ≡ left_view (passes.view (conds.waits_in (changed_in p)))
  pub permits : passes.view (conds.permits_in (changed_in one)) ≡ left_view (passes.view (conds.permits_in (changed_in p)))

-- and other counted nothing, and knows what p knew
pub record IsSecondOf (p other : QueuePass) : Type 0 where
  pub state : guards.view (state_in other) ≡ right_view (core_played (λ _. no_holds)) (guards.view (state_in p))
  pub waits : passes.view (conds.waits_in (changed_in other)) ≡ right_view (core_played (λ _. no_waits)) (passes.view (conds.waits_in (changed_in p)))
  pub permits : passes.view (conds.permits_in (changed_in other)) ≡ right_view (core_played (λ _. no_permits)) (passes.view (conds.permits_in (changed_in p)))

-- p counted and knows what one and other did, at each of the objects
pub record IsJoined (p one other : QueuePass) : Type 0 where
  pub state : guards.view (state_in p) ≡ joined_view both_held (guards.view (state_in one)) (guards.view (state_in other))
  pub waits : passes.view (conds.waits_in (changed_in p)) ≡ joined_view (both_played both_waits) (passes.view (conds.waits_in (changed_in one))) (passes.view (conds.waits_in (changed_in other)))
  pub permits : passes.view (conds.permits_in (changed_in p)) ≡ joined_view (both_played both_permits) (passes.view (conds.permits_in (changed_in one))) (passes.view (conds.permits_in (changed_in other)))

-- p is all of the passes that there are, at each of the objects
pub record IsWholePass (p : QueuePass) : Type 0 where
  pub state : IsWhole (guards.part_of (state_in p))
  pub waits : IsWhole (passes.part_of (conds.waits_in (changed_in p)))
  pub permits : IsWhole (passes.part_of (conds.permits_in (changed_in p)))

-- q is half as much as p, at each of the objects
pub record IsHalfOf (p q : QueuePass) : Type 0 where
  pub state : IsSamePart (guards.part_of (state_in q)) (half (guards.part_of (state_in p)))
  pub waits : IsSamePart (passes.part_of (conds.waits_in (changed_in q))) (half (passes.part_of (conds.waits_in (changed_in p))))
  pub permits : IsSamePart (passes.part_of (conds.permits_in (changed_in q))) (half (passes.part_of (conds.permits_in (changed_in p))))

-- q is as much as p, at each of the objects, and so the whole where p is
pub record IsAgainOf (p q : QueuePass) : Type 0 where
  pub state : IsAgain (guards.part_of (state_in p)) (guards.part_of (state_in q))
  pub waits : IsAgain (passes.part_of (conds.waits_in (changed_in p))) (passes.part_of (conds.waits_in (changed_in q)))
  pub permits : IsAgain (passes.part_of (conds.permits_in (changed_in p))) (passes.part_of (conds.permits_in (changed_in q)))
