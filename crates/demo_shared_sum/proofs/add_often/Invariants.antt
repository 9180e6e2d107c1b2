use Rattle.std.proofs.Common.{◌^◌}
use Rattle.model_events.specs.Integers.{u128_arithmetic}
use Rattle.running_atomic.specs.AtomicShown.{HasStayed}
use Rattle.running_atomic.specs.Additions.{HasAdded}
use Rattle.demo_shared_sum.proofs.add_often.Given as goal

abbrev pub invariant-loop : goal.invariant-loop
invariant-loop g l = HasStayed l.fn.pass l.pass × HasAdded u128_arithmetic (2 ^ 60) l.counter l.pass
