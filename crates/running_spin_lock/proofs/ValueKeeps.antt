-- What holds of a lock that guards a value whenever its rule does, and what its steps do with the value, whatever model its passes play.
use Rattle.running_spin_lock.proofs.Names.{get_elem?, State, opening, Final, Seen, Sights, View, IsWhole, first_view, sum_of, IsCounted, Word, Event, IsPast, Model, Played, played_add_up, IsOfARun, Holds, no_holds, both_holds, AreHoldsIn, MatchBool, PlaysAndCarries, Intent, Coming, MayStep, Told, counted_in, sights_after, holds_after, ◌≡◌, ℕ, List, [], ◌∷◌, Bool, sym, refl, ap, ◌∙◌, subst, arith, true, Option, Some, None, shared_first, dite, ℕ_discrete, IsSome, IsTally, others, sum_at, sum_of_two, alone, of_a_run, hold_at, IsForOne, holds_add_up, no_holds_first, word_is_held, none_held, both_held, core_held, LiesByHolds, CarriesByHolds, ValueAgrees, OneHolder, Locks, Lets, Sees, HasValue, has_vacant_slot, nat_tests, eqb-true, eqb-false}
use mathlib.Core.Option as maybe
use Rattle.running_model.proofs.Opening as opening_runs

module _ {M Q : Type 0} where
  pub held_add_up : IsTally {T = Played M Q ℕ Holds} none_held both_held core_held
  held_add_up = played_add_up no_holds both_holds (λ _. no_holds) holds_add_up

  -- the tallies of all passes but one
  abbrev the_others : List (View (Played M Q ℕ Holds)) → ℕ → Played M Q ℕ Holds
  the_others = others none_held both_held

  module _ {P T : Type 0} (m : Model ℕ P) where
    abbrev IsKept : State (Option T) (View (Played M Q ℕ Holds)) → Type 0
    IsKept = IsCounted none_held both_held (ValueAgrees m)

    -- the rule, with one pass apart
    apart : (s : State (Option T) (View (Played M Q ℕ Holds))) (id : ℕ) (v : View (Played M Q ℕ Holds)) → IsKept s → get_elem? s.views id ≡ maybe.some v →
        ValueAgrees m s.words s.homes (both_held v.tally (the_others s.views id))
    apart s id v r at = subst (ValueAgrees m s.words s.homes) (sum_at none_held both_held core_held held_add_up s.views id v at) r.agree

    pub opens : ((n : ℕ) (past : List (Event ℕ)) → IsPast m.arithmetic m.table n past → m.law past) → (names : List Word) → names ≡ Word.State ∷ [] → m.table.opening Word.State ≡ 0 → (x : T) (slots : List (Option T)) → slots ≡ Some x ∷ []
        → IsCounted (none_held {M = M} {Q = Q}) both_held (PlaysAndCarries m names (AreHoldsIn m.table) (LiesByHolds {T = T})) (opening (0 ∷ []) slots (first_view none_held))
    opens lawful names one_word free x slots is = subst (λ (l : List (Option T) × List Word). IsCounted (none_held {M = M} {Q = Q}) both_held (PlaysAndCarries m l.1 (AreHoldsIn m.table) LiesByHolds) (opening (0 ∷ []) l.0 (first_view none_held))) (λ i. (sym is i, sym one_word i)) (record {
      agree = opening_runs.opens m (Word.State ∷ []) (λ _ homes counts. LiesByHolds counts homes) (AreHoldsIn m.table) (0 ∷ []) _ no_holds lawful (sym free, tt)
          (record { home = λ _. (x, refl); out = λ on. absurd (omega (arith, on)) }) (no_holds_first m.table);
      shared = shared_first (first_view none_held) refl;
    })

    -- at the end the whole pass finds the value at home
    pub closes : (words : List ℕ) (slots : List (Option T)) (id : ℕ) (v : View (Played M Q ℕ Holds)) → Final (Seen IsKept id v) words slots → IsWhole v.part → v.tally.counts.holds ≡ 0
        → (x : T) × (get_elem? slots 0 ≡ maybe.some (Some x))
    closes words slots id v final whole off =
        let s = final.0 in let r = final.1.0 in let at = final.1.1 in let is = apart s id v r at in
        let none_else = ap (λ (t : Played M Q ℕ Holds). t.counts.holds) (alone none_held both_held core_held held_add_up s.views id v at whole r.shared) in
        let home = is.agrees.home (omega (arith, off, none_else)) in
        (home.0, final.4 0 (Some home.0) (ap (λ hs. get_elem? hs 0) home.1))

    pub grants_are_of_a_run : (s : State (Option T) (View (Played M Q ℕ Holds))) → IsKept s → IsOfARun m (AreHoldsIn m.table) (sum_of none_held both_held s.views)
    grants_are_of_a_run s r = of_a_run m (Word.State ∷ []) (λ _ homes counts. LiesByHolds counts homes) (AreHoldsIn m.table) s.words s.homes (sum_of none_held both_held s.views) r.agree

    -- two holds would be more than one
    pub one_holder : IsForOne m → (s : State (Option T) (View (Played M Q ℕ Holds))) → IsKept s → OneHolder T s
    one_holder lock s r = record {
      word = hold_at (Word.State ∷ []) s.words 0 Word.State _ r.agree.played.hold refl ∙ (word_is_held m lock r.agree.played.parties r.agree.played.past r.agree.played.run).0 ∙ sym r.agree.follows.holds;
      one = λ i j v w here there on also. dite (ℕ_discrete i j) (λ same. same)
          (λ differ. let two = sum_of_two none_held both_held core_held held_add_up s.views i j v w here there differ in
          let sum = ap (λ (t : Played M Q ℕ Holds). t.counts.holds) two.1 in let one = r.agree.follows.one in absurd (omega (arith, sum, one, on, also)));
      out = λ i v here on. let is = apart s i v r here in let one = is.follows.one in is.agrees.out (omega (arith, one, on));
    }

-- a store of 0 by the pass that has the hold
pub lets_go : {M Q P : Type 0} (m : Model ℕ P) (names : List Word) → names ≡ Word.State ∷ [] → (way : Coming ℕ) (v w : View (Played M Q ℕ Holds)) → MayStep m names way 0 (λ k. Intent.Store k 0) v.tally.parties → v.tally.counts.holds ≡ 1 →
    Told m sights_after holds_after way v.tally.parties 0 (counted_in v) (counted_in w) → Lets v w
lets_go m names h1 way v w h2 h3 h4 = grind (arith, nat_tests, eqb-true, eqb-false)

module _ {T : Type 0} where
  -- What a seat carries whose pass has no hold, or one.

  pub carries_none : (t : Holds) (slots : List (ℕ × Option T)) → t.holds ≡ 0 → slots ≡ [] → CarriesByHolds t slots
  carries_none t slots off none = record { off = λ _. none; on = λ on. absurd (omega (arith, off, on)) }

  -- and so what it carries after a try
  pub value_tried : {M Q : Type 0} (free : Bool) (see : Sights → Sights) (v w : View (Played M Q ℕ Holds)) (slots : List (ℕ × Option T)) → v.tally.counts.holds ≡ 0 → MatchBool free (Locks v w) (Sees see v w) →
      CarriesByHolds w.tally.counts slots → MatchBool free (HasValue slots) (slots ≡ [])
  value_tried free see v w slots h1 h2 h3 = grind (arith, nat_tests, eqb-true, eqb-false)

  -- the one slot that is carried is empty
  pub vacant : (slots : List (ℕ × Option T)) → has_vacant_slot slots ≡ true → slots ≡ (0, None) ∷ []
  vacant slots h1 = grind (arith, nat_tests, eqb-true, eqb-false)

  -- what was found in the slot is there
  pub is_there : (slots : List (Option T)) (o : Option T) → (x : T) × (get_elem? slots 0 ≡ maybe.some (Some x)) → get_elem? slots 0 ≡ maybe.some o → IsSome o
  is_there slots o home at = subst IsSome (maybe.some-injective (Some home.0) o (sym home.1 ∙ at)) refl
