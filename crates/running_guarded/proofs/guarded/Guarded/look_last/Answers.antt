use Rattle.running_guarded.proofs.Acting.{answered}
use Rattle.running_guarded.proofs.guarded.Guarded.look_last.Goals as goal

pub returns-in-Some-clause-called : goal.returns-in-Some-clause-called
returns-in-Some-clause-called g c = answered g.F.FnMut _ _ _ _ _ (rw c.in-Some.is at c.act-given.ensures)

pub returns-in-None-clause-called : goal.returns-in-None-clause-called
returns-in-None-clause-called g c = answered g.F.FnMut _ _ _ _ _ (rw c.in-None.is at c.act-given.ensures)
