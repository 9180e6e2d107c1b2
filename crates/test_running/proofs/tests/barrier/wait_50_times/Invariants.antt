use Rattle.running_barrier.specs.BarrierShown.{HasWaited}
use Rattle.test_running.proofs.tests.barrier.wait_50_times.Given as goal

abbrev pub invariant-loop-round : goal.invariant-loop-round
invariant-loop-round g l = HasWaited l.round l.fn.pass l.pass
