-- What was seen over several tries of a lock that guards a value.
use Rattle.running_spin_lock.proofs.Names.{Sights, View, Played, Holds, ◌≡◌, ℕ, ◌+◌, arith, Locks, Sees, Enters, OnlySees, nat_tests, eqb-true, eqb-false}

module _ {M Q : Type 0} where
  -- one try, by which one more sight is counted
  pub sees_now : (see : Sights → Sights) → ((s : Sights) → (see s).count ≡ s.count + 1) → (v w : View (Played M Q ℕ Holds)) → Sees see v w → OnlySees v w
  sees_now see h1 v w h2 = grind (arith, nat_tests, eqb-true, eqb-false)

  pub enters_now : (v w : View (Played M Q ℕ Holds)) → Locks v w → Enters v w
  enters_now v w h1 = grind (arith, nat_tests, eqb-true, eqb-false)

  pub enters_later : (u v w : View (Played M Q ℕ Holds)) → OnlySees u v → Enters v w → Enters u w
  enters_later u v w h1 h2 = grind (arith, nat_tests, eqb-true, eqb-false)
