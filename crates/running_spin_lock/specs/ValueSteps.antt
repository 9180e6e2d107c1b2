-- What a step on the word of a lock that guards a value, and what several change in what the seat knows that makes them.
use Rattle.std.specs.Prelude.{◌≡◌, ◌≢◌, ℕ, List, [], ◌∷◌, Bool, true, false, ◌==◌, ◌&&◌, Option, Some, None, MatchBool}
use Rattle.running_spin_lock.specs.Names.{Call, Answer, HoldKind, Sights, View, HasOnlyRead, HasWritten, view_of, wrote, Model, Played, Coming, HasCalled, Went, counted_in, Holds, granted, released}

abbrev pub locked : View Holds → View Holds
locked v = wrote v (granted v.tally)

abbrev pub unlocked : View Holds → View Holds
unlocked v = wrote v (released v.tally)

-- the lock was seen taken, by a step of which this is seen
abbrev pub saw_taken : (Sights → Sights) → View Holds → View Holds
saw_taken see v = view_of v.part (see v.sights) v.tally

-- The slot.

module _ {T : Type 0} where
  -- the value is with the seat
  abbrev pub HasValue : List (ℕ × Option T) → Type 0
  HasValue slots = (x : T) × (slots ≡ (0, Some x) ∷ [])

  -- the slot is with the seat, and nothing in it
  abbrev pub is_vacant : Option T → Bool
  is_vacant None = true
  is_vacant (Some x) = false

  abbrev pub has_vacant_slot : List (ℕ × Option T) → Bool
  has_vacant_slot [] = false
  has_vacant_slot (x ∷ []) = (x.0 == 0) && is_vacant x.1
  has_vacant_slot (x ∷ y ∷ rest) = false

module _ {M Q : Type 0} where
  -- One step.

  -- the hold, which was off, is on by one more grant, and nothing else changed that the pass counts or saw
  abbrev pub Locks : View (Played M Q ℕ Holds) → View (Played M Q ℕ Holds) → Type 0
  Locks v w = (v.tally.counts.holds ≡ 0) × (counted_in w ≡ locked (counted_in v))

  -- the hold, which was on, is off, and nothing else changed so
  abbrev pub Lets : View (Played M Q ℕ Holds) → View (Played M Q ℕ Holds) → Type 0
  Lets v w = (v.tally.counts.holds ≡ 1) × (counted_in w ≡ unlocked (counted_in v))

  -- it was seen locked, and nothing else changed so
  abbrev pub Sees : (Sights → Sights) → View (Played M Q ℕ Holds) → View (Played M Q ℕ Holds) → Type 0
  Sees see v w = counted_in w ≡ saw_taken see (counted_in v)

  -- Several steps.

  -- the hold, which was off, is on by one more grant, and nothing else changed but what was seen on the way
  pub record Enters (v w : View (Played M Q ℕ Holds)) : Type 0 where
    pub off : v.tally.counts.holds ≡ 0
    pub on : w.tally.counts ≡ granted v.tally.counts
    pub part : w.part ≡ v.part
    pub saw : HasWritten v.sights w.sights

  -- nothing was counted, and nothing changed but what was seen
  pub record OnlySees (v w : View (Played M Q ℕ Holds)) : Type 0 where
    pub counts : w.tally.counts ≡ v.tally.counts
    pub part : w.part ≡ v.part
    pub saw : HasOnlyRead v.sights w.sights

  -- The steps of a table, which keeps a law.
  module _ {P : Type 0} (m : Model ℕ P) where
    -- a try that the table has, to which the pass came so, found the lock free, or not
    abbrev pub Tries : Coming ℕ → Bool → View (Played M Q ℕ Holds) → View (Played M Q ℕ Holds) → Type 0
    Tries coming free v w = (found : ℕ) × MatchBool free (found ≡ 0) (found ≢ 0) × Went m coming v.tally.parties found w.tally.parties

    -- There is a run of the model, which keeps its law, in which a party of the pass has just been answered so by this call. It is the one
    -- call that the pass has made since, as a party that is new; and it has this hold now.
    abbrev pub Plays : Call ℕ → Answer ℕ → Option HoldKind → View (Played M Q ℕ Holds) → View (Played M Q ℕ Holds) → Type 0
    Plays call answer hold v w = HasCalled m call answer hold v.tally.parties w.tally.parties
