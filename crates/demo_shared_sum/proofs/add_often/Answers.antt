use Rattle.std.proofs.Common.{◌∙◌}
use Rattle.model_events.specs.Integers.{u128_arithmetic}
use Rattle.running_atomic.proofs.Additions.{adds}
use Rattle.demo_shared_sum.specs.declared.TheConstants.{STEP}
use Rattle.demo_shared_sum.proofs.add_often.Goals as goal

pub loop-preserved : goal.loop-preserved
loop-preserved g c = let kept = c.loop.invariant.0 in let acted = c.fetch_add.ensures.acted in (
  record { same = (acted.0.0 ∙ kept.same.0, acted.0.1 ∙ kept.same.1); part = acted.1.part ∙ kept.part },
  adds STEP u128_arithmetic c.loop.counter _ _ c.loop.pass c.fetch_add.new.pass acted c.loop.invariant.1,
)
