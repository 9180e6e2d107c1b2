-- The answers come after the end of the closure.
use Rattle.running_once.proofs.Names.{DoneComesAfterTheEnd, TrueComesAfterTheEnd, arith, nat_tests, eqb-true, eqb-false}

pub done_comes_after : DoneComesAfterTheEnd
done_comes_after = grind (arith, nat_tests, eqb-true, eqb-false)

pub true_comes_after : TrueComesAfterTheEnd
true_comes_after = grind (arith, nat_tests, eqb-true, eqb-false)
