-- What contracts see of a guarded value, its pass and its guard, and what a call changes in a pass.
use Rattle.std.specs.Prelude.{◌≡◌, ℕ, ◌+◌, ◌<◌, ◌≤◌}
use Rattle.running_guarded.specs.Names.{GName, Bor, Shared, TableId, WaitAction, IsWhole, HasWritten, Often, view_in, Locks, Lets, Enters, Part, Sights}
use Rattle.running_guarded.specs.declared.pass.GuardedPass.{GuardedPass}
use Rattle.running_guarded.specs.declared.guard.Guard.{Guard}
use Rattle.running_guarded.specs.declared.guarded.Guarded.{Guarded}
use Rattle.running_guarded.specs.GuardedRule.{MutexView}
use Rattle.running_guarded.specs.GuardedSteps.{SeesLocked, GivesUp, PlaysBoth}

-- which value the pass belongs to, and which of its passes it is
abbrev pub object_of : GuardedPass → TableId
object_of p = p.badge.table_id

abbrev pub number_of : GuardedPass → ℕ
number_of p = p.badge.id

-- what the pass knows
abbrev pub view : GuardedPass → MutexView
view p = view_in p.badge.views

abbrev pub part_of : GuardedPass → Part
part_of p = (view p).part

abbrev pub sights_of : GuardedPass → Sights
sights_of p = (view p).sights

-- how often the lock was granted to it
abbrev pub grants_of : GuardedPass → ℕ
grants_of p = (view p).tally.counts.grants

-- it can be used: it is not out with a guard
abbrev pub IsHere : GuardedPass → Type 0
IsHere p = 0 < (part_of p).share

-- the same pass, which can be used, and may know more
abbrev pub IsSamePass : GuardedPass → GuardedPass → Type 0
IsSamePass p q = (object_of q ≡ object_of p) × (number_of q ≡ number_of p) × IsHere q

-- the pass is whole, so that no other is left
abbrev pub IsAlone : GuardedPass → Type 0
IsAlone p = IsWhole (part_of p)

module _ {T A : Type 0} where
  abbrev pub id_of : Guarded T A → TableId
  id_of l = l.table.shared.table_id

  abbrev pub IsGuardedPass : Guarded T A → GuardedPass → Type 0
  IsGuardedPass l p = (object_of p ≡ id_of l) × IsHere p

  -- the pass that a guard borrows, by which borrow, and what it knows
  abbrev pub borrow_of : Guard T A → GName
  borrow_of g = g.pass.ghost_name

  abbrev pub view_with : Guard T A → MutexView
  view_with g = g.seat.me.0

  -- which value and which of its passes the guard stands for
  abbrev pub id_in : Guard T A → TableId
  id_in g = g.seat.table_id

  abbrev pub number_in : Guard T A → ℕ
  number_in g = g.seat.id

  -- the guard stands for this pass
  abbrev pub IsOf : GuardedPass → Guard T A → Type 0
  IsOf p g = (id_in g ≡ object_of p) × (number_in g ≡ number_of p)

  -- the hold, which was off, is on by one more grant, and nothing else changed
  abbrev pub HasLocked : GuardedPass → Guard T A → Type 0
  HasLocked p g = IsOf p g × Locks (view p) (view_with g)

  -- the same, but for what was seen on the way
  abbrev pub HasEntered : GuardedPass → Guard T A → Type 0
  HasEntered p g = IsOf p g × Enters (view p) (view_with g)

  -- the pass once the guard is spent: the hold, which was on, is off, and nothing else changed
  abbrev pub HasUnlocked : Guard T A → GuardedPass → Type 0
  HasUnlocked g q = IsOf q g × IsHere q × Lets (view_with g) (view q)

  -- what the guard lends
  abbrev pub value_of : Guard T A → T
  value_of g = g.value

  -- the guard, with this value
  abbrev pub guard_with : Guard T A → T → Guard T A
  guard_with g x = record g { value = x }

-- the lock was seen taken once, and nothing else changed
abbrev pub HasSeenLocked : GuardedPass → GuardedPass → Type 0
HasSeenLocked p q = IsSamePass p q × SeesLocked (view p) (view q)

-- The call was refused in 10001 tries of its own, and in those that it made once it had asked; nothing changed but what was seen.
abbrev pub HasGivenUp : {F W : Type 0} → Shared F (Bor W × (Bor ℕ × Unit {0})) WaitAction → F → GuardedPass → GuardedPass → Type 0
HasGivenUp g wait p q = IsSamePass p q × GivesUp 10001 g wait (view p) (view q)

-- The same part of the whole. On the way the pass may have been granted, and may have seen the lock.
pub record HasStayed (p q : GuardedPass) : Type 0 where
  pub same : IsSamePass p q
  pub part : part_of q ≡ part_of p
  pub grants : grants_of p ≤ grants_of q
  pub saw : (sights_of p).count ≤ (sights_of q).count

-- it was granted once, and that guard is spent; nothing else changed but what was seen on the way
pub record HasLockedOnce (p q : GuardedPass) : Type 0 where
  pub same : IsSamePass p q
  pub part : part_of q ≡ part_of p
  pub grants : grants_of q ≡ grants_of p + 1
  pub saw : HasWritten (sights_of p) (sights_of q)

-- It locked by a `Lock` and unlocked, so often, and made no other call: each time it was granted once more.
pub record HasLockedOften (times : ℕ) (p q : GuardedPass) : Type 0 where
  pub granted : grants_of q ≡ grants_of p + times
  pub played : Often PlaysBoth times (view p) (view q)
