-- What contracts see of an object and its pass, and what a call changes in a pass.
use Rattle.std.specs.Prelude.{◌≡◌, ℕ}
use Rattle.atomic_table.specs.Seated.{TableId}
use Rattle.atomic_table.specs.Table.{Me}
use Rattle.running_passes.specs.declared.part.Part.{Part}
use Rattle.running_passes.specs.declared.part.Sights.{Sights}
use Rattle.running_passes.specs.declared.view.View.{View}
use Rattle.running_passes.specs.declared.pass.Pass.{Pass}

module _ {T : Type 0} where
  -- which object the pass belongs to
  abbrev pub object_of : Pass T → TableId
  object_of p = p.seat.table_id

  -- what the pass knows
  abbrev pub view : Pass T → View T
  view p = p.seat.me.0

  abbrev pub part_of : Pass T → Part
  part_of p = (view p).part

  abbrev pub sights_of : Pass T → Sights
  sights_of p = (view p).sights

  abbrev pub tally_of : Pass T → T
  tally_of p = (view p).tally

  -- the same pass, which may know more
  abbrev pub IsSamePass : Pass T → Pass T → Type 0
  IsSamePass p q = (object_of q ≡ object_of p) × (q.seat.id ≡ p.seat.id)

  -- what a step tells of the seat, beside what it tells of the view: it is the same part, and has the same slots
  abbrev pub Told : {S : Type 0} → Me S (View T) → (ℕ → View T → Type 0) → ℕ → Me S (View T) → Type 0
  Told me tells found after = tells found after.0 × (after.1 ≡ me.1) × (after.0.part ≡ me.0.part)
