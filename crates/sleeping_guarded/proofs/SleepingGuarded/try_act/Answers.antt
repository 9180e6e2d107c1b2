use Rattle.std.proofs.Common.{refl}
use Rattle.sleeping_guarded.proofs.SleepingGuarded.try_act.Goals as goal

pub returns-in-Success-clause-acted : goal.returns-in-Success-clause-acted
returns-in-Success-clause-acted g c = record { found = _; left = _; says = record { shown = _; shows = refl; left = _; met = c.act-given.ensures; leaves = refl } }
