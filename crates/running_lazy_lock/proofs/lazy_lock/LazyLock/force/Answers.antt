use Rattle.std.proofs.Common.{subst}
use Rattle.model_events.specs.declared.event.Call.TheVariants as calls
use Rattle.running_spin_lock.specs.declared.pass.SpinPass.{SpinPass}
use Rattle.running_spin_lock.specs.SpinShown.{view}
use Rattle.running_spin_lock.specs.SpinSteps.{HasPlayedBoth}
use Rattle.running_lazy_lock.proofs.lazy_lock.LazyLock.force.Goals as goal

pub returns-in-Some-made-clause-called : goal.returns-in-Some-made-clause-called
returns-in-Some-made-clause-called g c = λ _. let ran = c.in-Some-made.ensures.ran in
    subst (λ (p : SpinPass). HasPlayedBoth calls.BlockingLock (view p) (view c.call_once_on-made.new.on)) ran.shows
    (subst (λ (q : SpinPass). HasPlayedBoth calls.BlockingLock (view ran.shown.now) (view q)) ran.leaves ran.met.1.0)
