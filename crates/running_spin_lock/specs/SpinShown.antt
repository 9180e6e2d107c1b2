-- What contracts see of a spin lock, its pass and its guard, and what a call changes in a pass.
use Rattle.std.specs.Prelude.{◌≡◌, ℕ, ◌+◌, ◌<◌, ◌≤◌}
use Rattle.running_spin_lock.specs.Names.{TableId, Sights, IsWhole, HasWritten, GName, Part}
use Rattle.running_spin_lock.specs.declared.pass.SpinPass.{SpinPass}
use Rattle.running_spin_lock.specs.declared.guard.SpinLockGuard.{SpinLockGuard}
use Rattle.running_spin_lock.specs.declared.spin_lock.SpinLock.{SpinLock}
use Rattle.running_spin_lock.specs.ValueRule.{view_in}
use Rattle.running_spin_lock.specs.ValueSteps.{Locks, Lets, Enters}
use Rattle.running_spin_lock.specs.Spin.{SpinView}
use Rattle.running_spin_lock.specs.SpinSteps.{SeesLocked}

-- which lock the pass belongs to, and which of its passes it is
abbrev pub object_of : SpinPass → TableId
object_of p = p.badge.table_id

abbrev pub number_of : SpinPass → ℕ
number_of p = p.badge.id

-- what the pass knows
abbrev pub view : SpinPass → SpinView
view p = view_in p.badge.views

abbrev pub part_of : SpinPass → Part
part_of p = (view p).part

abbrev pub sights_of : SpinPass → Sights
sights_of p = (view p).sights

-- how often a lock was granted to it
abbrev pub grants_of : SpinPass → ℕ
grants_of p = (view p).tally.counts.grants

-- it can be used: it is not out with a guard that was let go without its end
abbrev pub IsHere : SpinPass → Type 0
IsHere p = 0 < (part_of p).share

-- the same pass, which can be used, and may know more
abbrev pub IsSamePass : SpinPass → SpinPass → Type 0
IsSamePass p q = (object_of q ≡ object_of p) × (number_of q ≡ number_of p) × IsHere q

-- the pass is whole, so that no other is left
abbrev pub IsAlone : SpinPass → Type 0
IsAlone p = IsWhole (part_of p)

module _ {T A : Type 0} where
  abbrev pub id_of : SpinLock T A → TableId
  id_of l = l.table.shared.table_id

  abbrev pub IsSpinPass : SpinLock T A → SpinPass → Type 0
  IsSpinPass l p = (object_of p ≡ id_of l) × IsHere p

  -- the pass that a guard borrows, by which borrow, and what it knows
  abbrev pub borrow_of : SpinLockGuard T A → GName
  borrow_of g = g.pass.ghost_name

  abbrev pub view_with : SpinLockGuard T A → SpinView
  view_with g = g.seat.me.0

  -- the guard stands for this pass
  abbrev pub IsOf : SpinPass → SpinLockGuard T A → Type 0
  IsOf p g = (g.seat.table_id ≡ object_of p) × (g.seat.id ≡ number_of p)

  -- the hold, which was off, is on by one more grant, and nothing else changed
  abbrev pub HasLocked : SpinPass → SpinLockGuard T A → Type 0
  HasLocked p g = IsOf p g × Locks (view p) (view_with g)

  -- the same, but for what was seen on the way
  abbrev pub HasEntered : SpinPass → SpinLockGuard T A → Type 0
  HasEntered p g = IsOf p g × Enters (view p) (view_with g)

  -- the pass at the guard's end: the hold, which was on, is off, and nothing else changed
  abbrev pub HasUnlocked : SpinLockGuard T A → SpinPass → Type 0
  HasUnlocked g q = IsOf q g × IsHere q × Lets (view_with g) (view q)

  -- what the guard lends
  abbrev pub value_of : SpinLockGuard T A → T
  value_of g = g.value

  -- the guard, with this value
  abbrev pub guard_with : SpinLockGuard T A → T → SpinLockGuard T A
  guard_with g x = record g { value = x }

-- the lock was seen taken once, and nothing else changed
abbrev pub HasSeenLocked : SpinPass → SpinPass → Type 0
HasSeenLocked p q = IsSamePass p q × SeesLocked (view p) (view q)

-- The same part of the whole. On the way the pass may have been granted, and may have seen the lock.
pub record HasStayed (p q : SpinPass) : Type 0 where
  pub same : IsSamePass p q
  pub part : part_of q ≡ part_of p
  pub grants : grants_of p ≤ grants_of q
  pub saw : (sights_of p).count ≤ (sights_of q).count

-- it was granted once, and that guard is gone; nothing else changed but what was seen on the way
pub record HasLockedOnce (p q : SpinPass) : Type 0 where
  pub same : IsSamePass p q
  pub part : part_of q ≡ part_of p
  pub grants : grants_of q ≡ grants_of p + 1
  pub saw : HasWritten (sights_of p) (sights_of q)
