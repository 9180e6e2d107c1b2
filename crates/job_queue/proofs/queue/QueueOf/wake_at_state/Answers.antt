use Rattle.std.proofs.Common.{refl}
use Rattle.job_queue.proofs.queue.QueueOf.wake_at_state.Goals as goal

pub returns : goal.returns
returns g c = λ is. record { word = _; of = is; says = record { shown = _; shows = refl; says = record { met = c.wake.ensures } } }
