-- The value moves as the holds do.
use Rattle.std.specs.Prelude.{ℕ, ◌∷◌, Some}
use Rattle.running_spin_lock.specs.Names.{set, ap, arith, dite, ℕ_discrete, Table, get_elem?, keeps, takes, gives, put_back, rest, MovesByCounts, both_holds, AreHoldsIn}
use mathlib.Core.Option as maybe
use Rattle.running_spin_lock.specs.ValueRule.{LiesByHolds, CarriesByHolds}

-- of all passes one has a hold at most
pub value_moves : {P T : Type 0} (t : Table ℕ P) → MovesByCounts both_holds (AreHoldsIn t) (LiesByHolds {T = T}) CarriesByHolds
value_moves t past later before after others homes slots is now lies carried = let one = is.one in let also = now.one in dite (ℕ_discrete after.holds before.holds)
    (λ same. (
      keeps,
      tt,
      record { home = λ none. lies.home (omega (arith, same, none)); out = λ some. lies.out (omega (arith, same, some)) },
      record { off = λ none. carried.off (omega (arith, same, none)); on = λ some. carried.on (omega (arith, same, some)) },
    ))
    (λ differ. dite (ℕ_discrete before.holds 0)
    (λ off. let home = lies.home (omega (arith, one, also, differ, off)) in let empty = carried.off off in (
      takes 0 (Some home.0),
      ap (λ hs. get_elem? hs 0) home.1,
      record { home = λ none. absurd (omega (arith, differ, off, none)); out = λ _. ap (λ hs. set hs 0 maybe.none) home.1 },
      record { off = λ none. absurd (differ (omega (arith, off, none))); on = λ _. (home.0, ap (λ l. (0, Some home.0) ∷ l) empty) },
    ))
    (λ on. let out = lies.out (omega (arith, one, on)) in let value = carried.on (omega (arith, one, on)) in (
      gives,
      tt,
      record { home = λ _. (value.0, λ i. put_back (out i) (value.1 i)); out = λ some. absurd (omega (arith, one, also, differ, on, some)) },
      record { off = λ _. ap rest value.1; on = λ some. absurd (omega (arith, one, also, differ, on, some)) },
    )))
