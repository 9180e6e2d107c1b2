use Rattle.running_guarded.proofs.Acting.{answered}
use Rattle.sleeping_monitor.proofs.MonitorHandle.look.Goals as goal

pub returns-clause-called : goal.returns-clause-called
returns-clause-called g c = answered g.F.FnMut _ _ _ _ _ c.act-given.ensures
