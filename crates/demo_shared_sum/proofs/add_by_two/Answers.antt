use Rattle.model_events.specs.Integers.{u128_arithmetic}
use Rattle.running_atomic.proofs.Additions.{joins_added}
use Rattle.demo_shared_sum.specs.declared.TheConstants.{STEP}
use Rattle.demo_shared_sum.proofs.add_by_two.Goals as goal

pub returns-clause-added : goal.returns-clause-added
returns-clause-added g c = joins_added STEP u128_arithmetic 1000 1000 c.join-one.result.0 c.join-one.result.1 c.in-Ok-join.pass c.in-Ok-join.ensures.joined c.join-one.ensures.first.1 c.join-one.ensures.second.1
