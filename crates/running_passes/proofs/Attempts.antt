-- What a pass has seen over several tries.
use Rattle.running_passes.proofs.Names.{arith, nat_tests, eqb-true, eqb-false}
use Rattle.running_passes.specs.declared.part.Sights.{Sights}
use Rattle.running_passes.specs.Sights.{HasOnlyRead, HasWritten}

pub read_twice : (a b c : Sights) → HasOnlyRead a b → HasOnlyRead b c → HasOnlyRead a c
read_twice a b c h1 h2 = grind (arith, nat_tests, eqb-true, eqb-false)

pub read_and_written : (a b c : Sights) → HasOnlyRead a b → HasWritten b c → HasWritten a c
read_and_written a b c h1 h2 = grind (arith, nat_tests, eqb-true, eqb-false)
