-- Each kind of step keeps the rule, whatever the tallies are.
use Rattle.running_passes.proofs.Names.{◌≡◌, ℕ, suc, ◌<◌, List, ◌∷◌, get_or, set, sym, refl, ap, ◌∙◌, subst, some, get_elem?, View, IsTally, IsWhole, spent_view, left_view, right_view, joined_view, IsCounted, Updates, Told, nat_tests, eqb-true, eqb-false, arith}
use mathlib.Core.Option as maybe
use Rattle.atomic_table.specs.Table.{Me, keeps, Allows, Splits, Joins, Final, Seen}
use Rattle.running_passes.specs.Objects.{HasClosed, HaveClosed}
use Rattle.running_passes.proofs.Parts.{shared_step, shared_split, shared_join}
use Rattle.running_passes.proofs.Sums.{others, sum_at, sum_set, sum_split, sum_join, alone}

found : (words : List ℕ) (i n : ℕ) → get_elem? words i ≡ some n → get_or words i 0 ≡ n
found (x ∷ xs) (suc i) n at = found xs i n at
found words i n h1 = grind (arith, nat_tests, eqb-true, eqb-false)

module _ {S T : Type 0} (none : T) (add : T → T → T) (core : T → T) (laws : IsTally none add core) (agrees : List ℕ → List (maybe.Option S) → T → Type 0) where
  pub steps : (slots id i : ℕ) (me : Me S (View T)) (f : ℕ → ℕ) (tells : ℕ → View T → Type 0) → 0 < me.0.part.share → Updates none add agrees me.0 i f tells
      → Allows (IsCounted none add agrees) slots id me i f (Told me tells)
  steps slots id i me f tells alive update s r _ at fits =
      let u = update.may s.words s.homes (others none add s.views id) (subst (agrees s.words s.homes) (sum_at none add core laws s.views id me.0 at) r.agree) (λ whole. alone none add core laws s.views id me.0 at whole r.shared) fits in (
        u.0,
        keeps,
        tt,
        record {
          agree = subst (agrees (set s.words i (f (get_or s.words i 0))) s.homes) (sym (sum_set none add core laws s.views id me.0 u.0 at)) u.2;
          shared = shared_step s.views id me.0 u.0 at u.1 alive r.shared;
        },
        (u.3, refl, u.1),
      )

  pub splits : (id : ℕ) (v : View T) → 0 < v.part.share → Splits (IsCounted none add agrees) id v (left_view v) (right_view core v)
  splits id v h1 = grind (arith, nat_tests, eqb-true, eqb-false, shared_split, sum_split)

  pub joins : (id : ℕ) (v : View T) (other : ℕ) (w : View T) → 0 < v.part.share → Joins (IsCounted none add agrees) id v other w (joined_view add v w) (spent_view none)
  joins id v other w alive s r at apart there = let both : View T = joined_view add v w in let spent : View T = spent_view none in record {
    agree = subst (agrees s.words s.homes) (sym (sum_join none add core laws s.views id other v w both spent at apart there refl refl)) r.agree;
    shared = shared_join s.views id other v w both spent at there refl refl alive (refl, refl) r.shared;
  }

  -- at the end the whole pass has counted all
  pub closes : (words : List ℕ) (slots : List S) (id : ℕ) (v : View T) (i n : ℕ) → get_elem? words i ≡ some n → Final (Seen (IsCounted none add agrees) id v) words slots → IsWhole v.part
      → HasClosed agrees v.tally i n
  closes words slots id v i n at final whole = let s = final.0 in let seen = final.1.1 in let r = final.1.0 in
      let all = sum_at none add core laws s.views id v seen ∙ ap (add v.tally) (alone none add core laws s.views id v seen whole r.shared) ∙ laws.swap v.tally none ∙ laws.unit v.tally in record {
        words = words;
        homes = s.homes;
        rule = subst (λ (ws : List ℕ). agrees ws s.homes v.tally) final.2 (subst (agrees s.words s.homes) all r.agree);
        here = found words i n at;
      }

  -- and of two of its words
  pub closes_both : (words : List ℕ) (slots : List S) (id : ℕ) (v : View T) (i n j m : ℕ) → get_elem? words i ≡ some n → get_elem? words j ≡ some m → Final (Seen (IsCounted none add agrees) id v) words slots → IsWhole v.part
      → HaveClosed agrees v.tally i n j m
  unfolding closes
  closes_both words slots id v i n j m at also final whole = let one = closes words slots id v i n at final whole in let other = closes words slots id v j m also final whole in record {
    words = words;
    homes = final.0.homes;
    rule = one.rule;
    here = one.here;
    there = other.here;
  }
