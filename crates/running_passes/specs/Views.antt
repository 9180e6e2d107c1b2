-- What a pass knows, what all passes of an object know together, and what a step may change in one.
use Rattle.std.specs.Prelude.{◌≡◌, ℕ, ◌<◌, ◌^◌, List, [], ◌∷◌, slice_index, slice_set}
use mathlib.Core.Option as maybe
use Rattle.atomic_table.specs.Table.{State}
use Rattle.running_passes.specs.declared.part.Part.{Part}
use Rattle.running_passes.specs.declared.part.Sights.{Sights}
use Rattle.running_passes.specs.declared.view.View.{View}
use Rattle.running_passes.specs.Parts.{whole, nothing, half, together, IsWhole, IsShared}
use Rattle.running_passes.specs.Sights.{unseen, seen, seen_instead, stale, known, seen_by_both}

module _ {T : Type 0} where
  abbrev pub view_of : Part → Sights → T → View T
  view_of p s t = record { part = p; sights = s; tally = t }

  -- the pass that `new` gives
  abbrev pub first_view : T → View T
  first_view t = view_of whole unseen t

  -- the pass that a `join` leaves spent
  abbrev pub spent_view : T → View T
  spent_view none = view_of nothing unseen none

  -- the word was seen
  abbrev pub looked : View T → ℕ → View T
  looked v n = view_of v.part (seen v.sights n) v.tally

  -- it was seen by an exchange from another value, which failed
  abbrev pub missed : View T → ℕ → ℕ → View T
  missed v from n = view_of v.part (seen_instead v.sights from n) v.tally

  -- a write was done, which makes the tally this
  abbrev pub wrote : View T → T → View T
  wrote v t = view_of v.part (stale v.sights) t

  -- the two parts of a pass, and the whole of two
  abbrev pub left_view : View T → View T
  left_view v = view_of (half v.part) v.sights v.tally

  abbrev pub right_view : (T → T) → View T → View T
  right_view core v = view_of (half v.part) (known v.sights) (core v.tally)

  abbrev pub joined_view : (T → T → T) → View T → View T → View T
  joined_view add v w = view_of (together v.part w.part) (seen_by_both v.sights w.sights) (add v.tally w.tally)

  abbrev pub part_of : View T → Part
  part_of v = v.part

  -- it counted and saw nothing
  abbrev pub IsBlank : T → View T → Type 0
  IsBlank none v = (v.tally ≡ none) × (v.sights ≡ unseen)

  abbrev pub sum_of : T → (T → T → T) → List (View T) → T
  sum_of none add [] = none
  sum_of none add (v ∷ views) = add v.tally (sum_of none add views)

  -- the rule of a table: the sum of all tallies agrees with the words and with the slots at home
  pub record IsCounted {S : Type 0} (none : T) (add : T → T → T) (agrees : List ℕ → List (maybe.Option S) → T → Type 0) (s : State S (View T)) : Type 0 where
    pub agree : agrees s.words s.homes (sum_of none add s.views)
    pub shared : IsShared part_of (IsBlank none) s.views

  -- A step by a pass with this view, which makes f n of the word n, may be made: whatever the others have counted, the pass has a new
  -- tally that agrees again, and `tells` holds of what the step found and of the new view. Where no other pass is left, they have
  -- counted nothing.
  pub record Updates {S : Type 0} (none : T) (add : T → T → T) (agrees : List ℕ → List (maybe.Option S) → T → Type 0) (v : View T) (i : ℕ) (f : ℕ → ℕ) (tells : ℕ → View T → Type 0) : Type 0 where
    pub may : (words : List ℕ) (homes : List (maybe.Option S)) (rest : T) → agrees words homes (add v.tally rest) → (IsWhole v.part → rest ≡ none) → slice_index words i < 2 ^ 64
        → (w : View T) × (w.part ≡ v.part) × agrees (slice_set words i (f (slice_index words i))) homes (add w.tally rest) × tells (slice_index words i) w
