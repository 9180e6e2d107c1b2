use Rattle.running_barrier.specs.BarrierShown.{HasWaited}
use Rattle.demo_four_meet.proofs.meet_often.Given as goal

abbrev pub invariant-loop-round : goal.invariant-loop-round
invariant-loop-round g l = HasWaited l.round l.fn.pass l.pass
