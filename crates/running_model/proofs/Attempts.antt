-- What becomes of what a pass counts over several tries.
use Rattle.running_model.proofs.Names.{Bor, Shared, WaitAction, Part, Pass, part_of, sights_of, HasAsked, ◌≡◌, ℕ, ◌+◌, ◌≤◌, Bool, MatchBool, refl, sym, subst, arith, read_twice, read_and_written, Played, counts_of, HasSeen, HasMissed, HasOnlySeen, HasMoved, WasRefused, WasRefusedAt, nat_tests, eqb-true, eqb-false}

module _ {M Q V C : Type 0} where
  pub seen_none : (p : Pass (Played M Q V C)) → HasOnlySeen p p
  seen_none p = record { same = (refl, refl); counts = refl; part = refl; saw = record { more = omega arith; still = λ _. refl } }

  pub seen_twice : (p q r : Pass (Played M Q V C)) → HasOnlySeen p q → HasOnlySeen q r → HasOnlySeen p r
  seen_twice p q r h1 h2 = grind (arith, nat_tests, eqb-true, eqb-false, read_twice)

  -- what is so of a part and of counts is so after nothing was counted
  pub still_so : (P : Part → C → Type 0) (p q : Pass (Played M Q V C)) → HasOnlySeen p q → P (part_of p) (counts_of p) → P (part_of q) (counts_of q)
  still_so P p q seen is = subst (λ (x : Part × C). P x.0 x.1) (λ i. (sym seen.part i, sym seen.counts i)) is

  -- what moves after nothing was counted moves from the start
  pub moved_later : (Moves : Part → C → C → ℕ → Type 0) (p q r : Pass (Played M Q V C)) → HasOnlySeen p q → HasMoved Moves q r → HasMoved Moves p r
  moved_later Moves p q r h1 h2 = grind (arith, nat_tests, eqb-true, eqb-false, read_and_written)

  -- what a value refused, whichever it was
  pub refused_by : (P : ℕ → Type 0) (n seen : ℕ) (p q : Pass (Played M Q V C)) → WasRefusedAt P seen n p q → WasRefused P n p q
  refused_by P n seen p q h1 = grind (arith, nat_tests, eqb-true, eqb-false)

  -- what is refused after nothing was counted but so many sights
  pub refused_later : (P : ℕ → Type 0) (n : ℕ) (p q r : Pass (Played M Q V C)) → HasOnlySeen p q → (sights_of p).count + n ≤ (sights_of q).count → WasRefused P 1 q r → WasRefused P (n + 1) p r
  refused_later P n p q r h1 h2 h3 = grind (arith, nat_tests, eqb-true, eqb-false)

  pub told_later :
      (Moves : Part → C → C → ℕ → Type 0) (P : ℕ → Type 0) (n : ℕ) (p q r : Pass (Played M Q V C)) (granted : Bool) → HasOnlySeen p q → (sights_of p).count + n ≤ (sights_of q).count →
      MatchBool granted (HasMoved Moves q r) (WasRefused P 1 q r) → MatchBool granted (HasMoved Moves p r) (WasRefused P (n + 1) p r)
  told_later Moves P n p q r granted h1 h2 h3 = grind (arith, nat_tests, eqb-true, eqb-false)

  -- what was refused first, and was then granted or refused again
  pub told_after : (Moves : Part → C → C → ℕ → Type 0) (P : ℕ → Type 0) (m n : ℕ) (p q r : Pass (Played M Q V C)) (granted : Bool) → WasRefused P m p q → MatchBool granted (HasMoved Moves q r) (WasRefused P n q r) →
      MatchBool granted (HasMoved Moves p r) (WasRefused P (m + n) p r)
  told_after Moves P m n p q r granted h1 h2 = grind (arith, nat_tests, eqb-true, eqb-false)

  -- one sight, and no more

  pub seen_once : (n : ℕ) (p q : Pass (Played M Q V C)) → HasSeen n p q → HasOnlySeen p q
  seen_once n p q h1 = grind (arith, nat_tests, eqb-true, eqb-false)

  pub missed_once : (from n : ℕ) (p q : Pass (Played M Q V C)) → HasMissed from n p q → HasOnlySeen p q
  missed_once from n p q h1 = grind (arith, nat_tests, eqb-true, eqb-false)

-- a call that had looked so often before it asked and looked again
pub asked_after : {F W T : Type 0} (g : Shared F (Bor W × (Bor ℕ × Unit {0})) WaitAction) (wait : F) (P : ℕ → Type 0) (m n : ℕ) (p q r : Pass T) → (sights_of q).count ≡ (sights_of p).count + m → HasAsked g wait P n q r → HasAsked g wait P (m + n) p r
asked_after g wait P m n p q r before asked = record { more = asked.more; looked = omega (arith, before, asked.looked); some = asked.some; again = asked.again }
