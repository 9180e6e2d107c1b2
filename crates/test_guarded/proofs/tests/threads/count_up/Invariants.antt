use Rattle.running_guarded.specs.GuardedShown.{HasStayed}
use Rattle.test_guarded.proofs.tests.threads.count_up.Given as goal

abbrev pub invariant-loop : goal.invariant-loop
invariant-loop g l = record { stayed : HasStayed l.fn.pass l.pass }
