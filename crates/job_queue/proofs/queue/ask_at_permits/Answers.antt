use Rattle.std.proofs.Common.{refl}
use Rattle.job_queue.proofs.queue.ask_at_permits.Goals as goal

pub returns : goal.returns
returns g c = record { word = _; seen = c.args.seen; named = refl; says = record { met = c.wait.ensures } }
