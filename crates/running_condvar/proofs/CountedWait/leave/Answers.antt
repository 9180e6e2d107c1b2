use Rattle.running_condvar.proofs.Names.{refl}
use Rattle.running_condvar.proofs.CountedWait.leave.Goals as goal

pub returns : goal.returns
returns g c = record { left = record { counted = _; says = (_, c.leave-given.ensures, refl) } }
