-- What contracts see of the hold of a reader-writer lock, and what a call of either lock changes in a pass.
use Rattle.std.specs.Prelude.{◌≡◌, true, ◌⊎◌, ℕ, ◌+◌}
use Rattle.running_rw_hold.specs.Names.{HoldKind, Pass, sights_of, looked}
use Rattle.std.specs.Borrow.{GName}
use Rattle.running_passes.specs.declared.view.View.{View}
use Rattle.running_rw_hold.specs.declared.hold.RwPass.{Ghosts}
use Rattle.running_rw_hold.specs.declared.hold.RwHold.{RwHold}
use Rattle.running_rw_hold.specs.declared.hold.RwHold.TheVariants.{Read, Write}

module _ {P : Type 0} {G : Ghosts P} where
  abbrev pub IsReadHold : RwHold P G → Type 0
  IsReadHold (Read h) = Unit {0}
  IsReadHold (Write h) = ⊥

  abbrev pub IsWriteHold : RwHold P G → Type 0
  IsWriteHold (Read h) = ⊥
  IsWriteHold (Write h) = Unit {0}

  abbrev pub kind_of : RwHold P G → HoldKind
  kind_of (Read h) = HoldKind.Read
  kind_of (Write h) = HoldKind.Write

  -- the pass that a hold borrows, and which borrow of it that is
  abbrev pub pass_of : RwHold P G → P
  pass_of (Read h) = h.pass.now
  pass_of (Write h) = h.pass.now

  abbrev pub borrow_of : RwHold P G → GName
  borrow_of (Read h) = h.pass.ghost_name
  borrow_of (Write h) = h.pass.ghost_name

-- `known` is what a pass knows of its holds and sights, and `HasStayed` says that nothing was counted.
module _ {T X : Type 0} (known : Pass T → View X) (HasStayed : Pass T → Pass T → Type 0) (IsShut : ℕ → Type 0) where
  -- one look saw a value at which no reader enters
  abbrev pub HasSeenShut : Pass T → Pass T → Type 0
  HasSeenShut p q = IsShut (sights_of q).last × (known q ≡ looked (known p) (sights_of q).last)

  -- an exchange from the value that one look saw found another, since another party had written in between
  abbrev pub HasBeenOvertaken : Pass T → Pass T → Type 0
  HasBeenOvertaken p q = ((sights_of q).missed ≡ true) × ((sights_of q).count ≡ (sights_of p).count + 2)

  -- One look, or one and an exchange that failed, did not let the reader in. Nothing was counted.
  pub record TurnsAway (p q : Pass T) : Type 0 where
    pub stayed : HasStayed p q
    pub cause : HasSeenShut p q ⊎ HasBeenOvertaken p q
