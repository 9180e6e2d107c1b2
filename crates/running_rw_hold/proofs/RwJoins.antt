-- Passes that are joined.
use Rattle.running_rw_hold.proofs.Names.{◌≡◌, arith, nat_tests, eqb-true, eqb-false}
use Rattle.running_rw_hold.specs.Held.{read_holds, write_holds}
use Rattle.running_rw_hold.specs.RwReader.{Holds, both_holds}

-- a pass with no hold adds none to one that it is joined to
pub nobody_joins : (t u : Holds) → read_holds t ≡ 0 → write_holds t ≡ 0 → (read_holds (both_holds t u) ≡ read_holds u) × (write_holds (both_holds t u) ≡ write_holds u)
nobody_joins t u h1 h2 = grind (arith, nat_tests, eqb-true, eqb-false)
