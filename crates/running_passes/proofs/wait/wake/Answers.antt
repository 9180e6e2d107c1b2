use Rattle.running_passes.proofs.Names.{refl}
use Rattle.running_passes.proofs.wait.wake.Goals as goal

pub returns : goal.returns
returns g c = record { word = _; says = record { shown = _; shows = refl; says = record { met = c.wake.ensures } } }
