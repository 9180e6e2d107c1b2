-- What contracts see of a handle: the value that it is of, and what a call changes in its pass.
use Rattle.std.specs.Prelude.{◌≡◌, ℕ, ◌+◌, ◌≤◌, Some, None}
use Rattle.std.specs.Borrow.{GName}
use Rattle.model_events.specs.declared.event.Call.TheVariants as calls
use Rattle.model_events.specs.declared.event.Answer.TheVariants as answers
use Rattle.running_guarded.specs.declared.pass.GuardedPass.{GuardedPass}
use Rattle.running_guarded.specs.GuardedRule.{MutexView}
use Rattle.model_events.specs.declared.hold.HoldKind.TheVariants as kinds
use Rattle.running_spin_lock.specs.ValueSteps.{Locks, Lets, Enters}
use Rattle.running_guarded.specs.GuardedSteps.{SeesLockedOften, PlaysBoth, PlaysUnlock, Plays}
use Rattle.running_guarded.specs.GuardedShown as passes
use Rattle.running_passes.specs.declared.part.Part.{Part}
use Rattle.running_passes.specs.Views.{left_view, right_view, joined_view}
use Rattle.running_model.specs.Passes.{core_played}
use Rattle.running_for_one.specs.ForOne.{no_holds}
use Rattle.running_spin_lock.specs.ValueRule.{both_held}
use Rattle.running_guarded.specs.declared.guarded.Guarded.{Guarded}
use Rattle.sleeping_guarded.specs.declared.SleepingGuarded.{SleepingGuarded}
use Rattle.sleeping_guarded.specs.declared.GuardedHandle.{GuardedHandle}
use Rattle.sleeping_guarded.specs.declared.locked.Locked.{Locked}

-- the pass was granted once by a `Lock` of the model, and has let go again; nothing else changed but what was seen on the way
pub record HasLockedOnce (p q : GuardedPass) : Type 0 where
  pub granted : passes.HasLockedOnce p q
  pub played : PlaysBoth (passes.view p) (passes.view q)

-- the call was refused in 10001 tries of its own, and in one more at least once it had slept, or had looked at the clock
pub record HasGivenUp (p q : GuardedPass) : Type 0 where
  pub same : passes.IsSamePass p q
  pub more : ℕ
  pub some : 1 ≤ more
  pub refused : SeesLockedOften (10001 + more) (passes.view p) (passes.view q)
  pub played : Plays calls.Lock answers.Interrupted None (passes.view p) (passes.view q)

-- the value was seen locked once
pub record HasSeenLocked (p q : GuardedPass) : Type 0 where
  pub refused : passes.HasSeenLocked p q
  pub played : Plays calls.TryLock answers.Interrupted None (passes.view p) (passes.view q)

-- it was free at the first exchange, and the pass has let go again
pub record HasLockedAtOnce (p q : GuardedPass) : Type 0 where
  pub within : MutexView
  pub locked : Locks (passes.view p) within
  pub came : Plays calls.TryLock answers.Success (Some kinds.Write) (passes.view p) within
  pub same : passes.IsSamePass p q
  pub unlocked : Lets within (passes.view q)
  pub went : PlaysUnlock within (passes.view q)

-- By a guard: the pass keeps one half, and the other was granted by a `Lock` of the model; it knows this within the guard.
pub record HasComeIn (p q : MutexView) (within : MutexView) : Type 0 where
  pub rest : q ≡ left_view p
  pub entered : Enters (right_view (core_played (λ _. no_holds)) p) within
  pub came : Plays calls.Lock answers.Success (Some kinds.Write) (right_view (core_played (λ _. no_holds)) p) within

-- so, at the first exchange
pub record HasComeInAtOnce (p q : MutexView) (within : MutexView) : Type 0 where
  pub rest : q ≡ left_view p
  pub locked : Locks (right_view (core_played (λ _. no_holds)) p) within
  pub came : Plays calls.TryLock answers.Success (Some kinds.Write) (right_view (core_played (λ _. no_holds)) p) within

-- the half that was granted has let go by an `Unlock`, and is one with the other again
pub record HasLetGo (p : MutexView) (within : MutexView) (q : MutexView) : Type 0 where
  pub back : MutexView
  pub unlocked : Lets within back
  pub went : PlaysUnlock within back
  pub joined : q ≡ joined_view both_held p back

module _ {T A : Type 0} where
  -- the lock itself, whose pass is the object's
  abbrev pub below : SleepingGuarded T A → Guarded T A
  below o = o.value

  abbrev pub IsSleepingPass : SleepingGuarded T A → GuardedPass → Type 0
  IsSleepingPass o p = passes.IsGuardedPass (below o) p

  -- the value that it is a handle of, and its pass
  abbrev pub object_of : GuardedHandle T A → SleepingGuarded T A
  object_of h = h.of.now

  abbrev pub pass_of : GuardedHandle T A → GuardedPass
  pass_of h = h.pass

  -- which part of all passes that is
  abbrev pub part_with : GuardedHandle T A → Part
  part_with h = passes.part_of (pass_of h)

  -- the handle of a guard, which borrow of it that is, what the guard knows of the lock, and what it lends
  abbrev pub handle_of : Locked T A → GuardedHandle T A
  handle_of guard = guard.handle.now

  abbrev pub borrow_of : Locked T A → GName
  borrow_of guard = guard.handle.ghost_name

  abbrev pub view_with : Locked T A → MutexView
  view_with guard = guard.seat.me.0

  abbrev pub value_of : Locked T A → T
  value_of guard = guard.value

  abbrev pub guard_with : Locked T A → T → Locked T A
  guard_with guard x = record guard { value = x }

  -- a guard of this handle, which has locked so
  pub record IsGuardOf (Changed : MutexView → MutexView → MutexView → Type 0) (before : GuardedHandle T A) (guard : Locked T A) : Type 0 where
    pub object : object_of (handle_of guard) ≡ object_of before
    pub changed : Changed (passes.view (pass_of before)) (passes.view (pass_of (handle_of guard))) (view_with guard)

  -- the handle once its guard has ended
  pub record IsLeftBy (guard : Locked T A) (after : GuardedHandle T A) : Type 0 where
    pub object : object_of after ≡ object_of (handle_of guard)
    pub let_go : HasLetGo (passes.view (pass_of (handle_of guard))) (view_with guard) (passes.view (pass_of after))

  -- still a handle of the same value, and its pass has changed so
  pub record PassHas (Changed : GuardedPass → GuardedPass → Type 0) (before after : GuardedHandle T A) : Type 0 where
    pub object : object_of after ≡ object_of before
    pub changed : Changed (pass_of before) (pass_of after)
