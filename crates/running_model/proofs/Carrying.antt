-- A step of a pass whose seat carries slots may be made.
use Rattle.running_model.proofs.Names.{Word, Call, Event, Intent, Act, carried_out, IsPast, View, Sights, IsTally, IsCounted, ◌≡◌, ℕ, ◌<◌, refl, sym, subst, List, [], set, get_or, Model, Played, AreApart, effect, Coming, MayStep, none_played, both_played, core_played, played_add_up, StaysOnNoWord, GoesOnByActs, HasNeeds, SteppedByAct}
use mathlib.Core.Option as maybe
use Rattle.atomic_table.specs.Table.{Me, Allows, homes_after}
use Rattle.running_passes.proofs.Parts.{shared_step}
use Rattle.running_passes.proofs.Sums.{others, sum_at, sum_set, alone}
use Rattle.running_model.specs.Carrying.{MovesByCounts, PlaysAndCarries}
use Rattle.running_model.proofs.Updates.{adds_nothing, updates_by_act}

module _ {M Q V P C S : Type 0} (m : Model V P) (names : List Word) (none : C) (add : C → C → C) (core : C → C) (laws : IsTally none add core) (follow : List (Event V) → C → Type 0) (lies : C → List (maybe.Option S) → Type 0) (carries : C → List (ℕ × S) → Type 0) where
  -- the rule
  abbrev Agrees : List ℕ → List (maybe.Option S) → Played M Q V C → Type 0
  Agrees = PlaysAndCarries m names follow lies

  pub steps_carrying :
      ((n : ℕ) (past : List (Event V)) → IsPast m.arithmetic m.table n past → m.law past) → AreApart names → StaysOnNoWord follow →
      (sees : Act V → Sights → Sights) (after : Act V → Call V → C → C) (needs : Act V → C → Type 0) → GoesOnByActs m add follow (λ _ _. after) needs → MovesByCounts add follow lies carries →
      (slots id i : ℕ) (me : Me S (View (Played M Q V C))) (coming : Coming V) (intent : Word → Intent V) (f shows : ℕ → ℕ) → MayStep m names coming i intent me.0.tally.parties → HasNeeds names i needs intent me.0.tally.counts →
      0 < me.0.part.share → carries me.0.tally.counts me.1 → ((w : Word) (n : ℕ) → effect (intent w) n ≡ f n) → ((w : Word) (n : ℕ) → carried_out (intent w) (λ _. n) ≡ carried_out (intent w) (λ _. shows n)) →
      Allows (IsCounted (none_played none) (both_played add) Agrees) slots id me i f (λ found after_it. SteppedByAct m add follow sees (λ _ _. after) coming me.0 (shows found) after_it.0 × carries after_it.0.tally.counts after_it.1)
  steps_carrying lawful apart quiet sees after needs goes moves slots id i me coming intent f shows may has alive carried leaves so s r wide at fits =
      let v : View (Played M Q V C) = me.0 in
      let adds = played_add_up none add core laws in
      let more : Played M Q V C = others (none_played none) (both_played add) s.views id in
      let is = subst (Agrees s.words s.homes) (sum_at (none_played none) (both_played add) (core_played core) adds s.views id v at) r.agree in
      let u = (updates_by_act m names none add (adds_nothing none add core laws) (λ _ _ _. Unit {0}) follow lawful apart quiet (λ _ _ _ _ _. tt) sees (λ _ _. after) needs (λ past e place act call counts silent. refl) goes coming v i intent f shows may has leaves so).may
      s.words [] more (record { played = is.played; agrees = tt; follows = is.follows }) (λ whole. alone (none_played none) (both_played add) (core_played core) adds s.views id v at whole r.shared) fits in
      let moved = moves is.played.past u.2.played.past v.tally.counts u.0.tally.counts more.counts s.homes me.1 is.follows u.2.follows is.agrees carried in (
        u.0,
        moved.0,
        moved.1,
        record {
          agree = subst (Agrees (set s.words i (f (get_or s.words i 0))) (homes_after s.homes me.1 moved.0)) (sym (sum_set (none_played none) (both_played add) (core_played core) adds s.views id v u.0 at))
              (record { played = u.2.played; agrees = moved.2; follows = u.2.follows });
          shared = shared_step s.views id v u.0 at u.1 alive r.shared;
        },
        (u.3, moved.3),
      )
