-- A pass stands at one place of one call.
use Rattle.running_model.proofs.Names.{Call, Event, Then, HoldKind, place_after, ◌≡◌, ℕ, zero, suc, refl, sym, ap, ◌∙◌, List, Option, Some, None, some_same, Model, Slot, Mine, only, Parties, Coming, Going, Beginning, Continuing, Answered, Choosing, Aside, IsAt, IsHolding, ComesBy, nat_tests, eqb-true, eqb-false, arith}

pub only_one : {V : Type 0} (q p : ℕ) (own other : List (Event V)) → only q (Mine own) ≡ only p (Mine other) → (q ≡ p) × (own ≡ other)
only_one zero zero own other same = (refl, cc)
only_one (suc q) (suc p) own other same = let rest : only q (Mine own) ≡ only p (Mine other) = cc in let is = only_one q p own other rest in (ap suc is.0, is.1)
only_one q p own other same = absurd cc

module _ {V P : Type 0} (m : Model V P) where
  pub record Same (call other : Call V) (place there : P) (hold kept : Option HoldKind) (done rest : List (Slot V)) : Type 0 where
    pub same_call : call ≡ other
    pub same_place : place ≡ there
    pub same_hold : hold ≡ kept
    pub same_done : done ≡ rest

  pub same_at : (call other : Call V) (place there : P) (left also : Then V) (hold kept : Option HoldKind) (done rest : List (Slot V)) (p : Parties V) →
      IsAt m call place left hold done p → IsAt m other there also kept rest p → Same call other place there hold kept done rest
  same_at call other place there left also hold kept done rest p h1 h2 = grind (arith, nat_tests, eqb-true, eqb-false, only_one, some_same)

  same_holding : (kind also : HoldKind) (done rest : List (Slot V)) (p : Parties V) → IsHolding m kind done p → IsHolding m also rest p → (Some kind ≡ Some also) × (done ≡ rest)
  same_holding kind also done rest p h1 h2 = grind (arith, nat_tests, eqb-true, eqb-false, only_one)

  same_beginning : (begun call other : Call V) (place there : P) → begun ≡ call → begun ≡ other → m.table.begins call ≡ Some place → m.table.begins other ≡ Some there → (call ≡ other) × (place ≡ there)
  same_beginning begun call other place there h1 h2 h3 h4 = grind (arith, nat_tests, eqb-true, eqb-false, some_same)

  placed : {call other : Call V} {from to place there : P} {hold kept : Option HoldKind} {done rest : List (Slot V)} → Same call other from to hold kept done rest → (from ≡ to → place ≡ there) → Same call other place there hold kept done rest
  placed same so = record { same_call = same.same_call; same_place = so same.same_place; same_hold = same.same_hold; same_done = same.same_done }

  pub same_coming : (coming : Coming V) (call other : Call V) (place there : P) (hold kept : Option HoldKind) (done rest : List (Slot V)) (p : Parties V) →
      ComesBy m coming call place hold done p → ComesBy m coming other there kept rest p → Same call other place there hold kept done rest
  same_coming Going call other place there hold kept done rest p a b = same_at call other place there Then.GoesOn Then.GoesOn hold kept done rest p a b
  same_coming (Beginning begun) call other place there hold kept done rest p a b =
      let same = same_beginning begun call other place there a.0 b.0 a.1.may.begins b.1.may.begins in
      record { same_call = same.0; same_place = same.1; same_hold = a.1.new ∙ sym b.1.new; same_done = sym a.1.others ∙ b.1.others }
  same_coming (Continuing begun) call other place there hold kept done rest p a b =
      let same = same_beginning begun call other place there a.0 b.0 a.1.may.begins b.1.may.begins in
      let holding = same_holding a.1.kind b.1.kind done rest p a.1.holding b.1.holding in
      record { same_call = same.0; same_place = same.1; same_hold = a.1.kept ∙ holding.0 ∙ sym b.1.kept; same_done = holding.1 }
  same_coming (Answered action) call other place there hold kept done rest p a b =
      placed (same_at call other a.stood b.stood (Then.Waits a.told) (Then.Waits b.told) hold kept done rest p a.at b.at) (λ same. a.answered ∙ ap (λ (s : P). m.table.answered s action) same ∙ sym b.answered)
  same_coming (Choosing choice) call other place there hold kept done rest p a b =
      placed (same_at call other a.stood b.stood (Then.Chooses a.old) (Then.Chooses b.old) hold kept done rest p a.at b.at) (λ same. a.chosen ∙ ap (λ (s : P). m.table.chosen s choice) same ∙ sym b.chosen)
  same_coming Aside call other place there hold kept done rest p a b =
      placed (same_at call other a.from b.from Then.GoesOn Then.GoesOn hold kept done rest p a.at b.at) (λ same. some_same place there (ap place_after (sym a.leads ∙ ap (λ (s : P). m.table.after s None) same ∙ b.leads)))

  -- what is so where a pass comes to a step is so wherever it comes to it
  pub wherever : (coming : Coming V) (Says : Call V → P → Option HoldKind → List (Slot V) → Type 0) (call : Call V) (place : P) (hold : Option HoldKind) (done : List (Slot V)) (p : Parties V) → ComesBy m coming call place hold done p → Says call place hold done →
      (other : Call V) (there : P) (kept : Option HoldKind) (rest : List (Slot V)) → ComesBy m coming other there kept rest p → Says other there kept rest
  wherever coming Says call place hold done p h1 h2 other there kept rest h3 = grind (arith, nat_tests, eqb-true, eqb-false, same_coming)
