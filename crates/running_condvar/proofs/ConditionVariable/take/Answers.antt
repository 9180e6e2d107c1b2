use Rattle.running_condvar.proofs.Names.{refl, sym, ◌∙◌}
use Rattle.running_condvar.proofs.CondCalls.{slept_by}
use Rattle.running_condvar.proofs.ConditionVariable.take.Goals as goal

pub returns : goal.returns
returns g c = record { slept = record { wait = c.in-Some.closure; after = c.enter-took.result.1; was = sym c.take.ensures.value ∙ c.in-Some.is; left = refl; again = c.enter-took.ensures.may_again; slept = slept_by _ _ _ _ _ _ _ c.enter-took.result.0 c.enter-took.ensures.entered c.enter-took.ensures.played c.enter-took.ensures.exact c.enter-took.ensures.asked } }
