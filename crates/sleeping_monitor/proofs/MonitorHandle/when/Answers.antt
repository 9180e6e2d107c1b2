use Rattle.std.proofs.Common.{suc}
use Rattle.sleeping_monitor.proofs.MonitorHandle.when.Goals as goal

pub loop-preserved : goal.loop-preserved
loop-preserved g c = let before = c.loop.invariant.acted in record {
  acted = (suc before.0, (c.loop.act, before.1, rw c.in-None-given.is at c.look-given.ensures.called));
  callable = c.look-given.ensures.callable;
}
