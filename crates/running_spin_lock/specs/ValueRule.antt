-- The rule over all passes of a lock that guards a value, and plays a model of one word.
use Rattle.std.specs.Prelude.{◌≡◌, ℕ, List, [], ◌∷◌, slice_index, Option, Some}
use Rattle.running_spin_lock.specs.Names.{get_elem?, State, Word, View, spent_view, sum_of, IsCounted, Model, Played, none_played, both_played, core_played, PlaysAndCarries, IsOfARun, Holds, no_holds, both_holds, AreHoldsIn}
use mathlib.Core.Option as maybe
use Rattle.running_spin_lock.specs.ValueSteps.{HasValue}

module _ {T : Type 0} where
  -- the value is in its slot
  abbrev pub IsHome : List (maybe.Option (Option T)) → Type 0
  IsHome homes = (x : T) × (homes ≡ maybe.some (Some x) ∷ [])

  -- the slot is out with a seat
  abbrev pub IsOut : List (maybe.Option (Option T)) → Type 0
  IsOut homes = homes ≡ maybe.none ∷ []

  -- the value is at home where there is no hold, and out where there is one
  pub record LiesByHolds (t : Holds) (homes : List (maybe.Option (Option T))) : Type 0 where
    pub home : t.holds ≡ 0 → IsHome homes
    pub out : t.holds ≡ 1 → IsOut homes

  -- it is with the seat whose pass has a hold
  pub record CarriesByHolds (t : Holds) (slots : List (ℕ × Option T)) : Type 0 where
    pub off : t.holds ≡ 0 → slots ≡ []
    pub on : t.holds ≡ 1 → HasValue slots

module _ {M Q : Type 0} where
  -- what a pass knows that counts nothing, what two know, and what a copy keeps
  abbrev pub none_held : Played M Q ℕ Holds
  none_held = none_played no_holds

  abbrev pub both_held : Played M Q ℕ Holds → Played M Q ℕ Holds → Played M Q ℕ Holds
  both_held = both_played both_holds

  abbrev pub core_held : Played M Q ℕ Holds → Played M Q ℕ Holds
  core_held = core_played (λ _. no_holds)

  -- the view of a pass, or a spent one while a guard has it
  abbrev pub view_in : List (View (Played M Q ℕ Holds)) → View (Played M Q ℕ Holds)
  view_in [] = spent_view none_held
  view_in (v ∷ views) = v

  -- the word is that of a run of the model, in which the passes are parties and have the holds that stand after it; and the value lies as these say
  abbrev pub ValueAgrees : {P T : Type 0} → Model ℕ P → List ℕ → List (maybe.Option (Option T)) → Played M Q ℕ Holds → Type 0
  ValueAgrees m = PlaysAndCarries m (Word.State ∷ []) (AreHoldsIn m.table) LiesByHolds

  -- the word is how many holds all passes have; no two have one, and where one has, the value is out of its slot
  pub record OneHolder (T : Type 0) (s : State (Option T) (View (Played M Q ℕ Holds))) : Type 0 where
    pub word : slice_index s.words 0 ≡ (sum_of none_held both_held s.views).counts.holds
    pub one : (i j : ℕ) (v w : View (Played M Q ℕ Holds)) → get_elem? s.views i ≡ maybe.some v → get_elem? s.views j ≡ maybe.some w →
        v.tally.counts.holds ≡ 1 → w.tally.counts.holds ≡ 1 → i ≡ j
    pub out : (i : ℕ) (v : View (Played M Q ℕ Holds)) → get_elem? s.views i ≡ maybe.some v → v.tally.counts.holds ≡ 1 → IsOut s.homes

-- so it is whenever the rule holds
abbrev pub HasOneHolder : {P : Type 0} → (M Q : Type 0) → Model ℕ P → (T : Type 0) → Type 0
HasOneHolder M Q m T = (s : State (Option T) (View (Played M Q ℕ Holds))) → IsCounted none_held both_held (ValueAgrees m) s → OneHolder T s

-- and all passes are the parties of a run, have the holds that stand after it, and were granted as often as calls were in it
abbrev pub GrantsAreOfARunOf : {P : Type 0} → (M Q : Type 0) → Model ℕ P → (T : Type 0) → Type 0
GrantsAreOfARunOf M Q m T = (s : State (Option T) (View (Played M Q ℕ Holds))) → IsCounted none_held both_held (ValueAgrees m) s → IsOfARun m (AreHoldsIn m.table) (sum_of none_held both_held s.views)
