use Rattle.std.specs.Prelude.{ℕ, None}
use Rattle.running_guarded.specs.Acting.{HasAnswered}
use Rattle.running_guarded.proofs.Names.{Often}
use Rattle.sleeping_monitor.proofs.MonitorHandle.when.Given as goal

abbrev pub invariant-loop : goal.invariant-loop
invariant-loop g l = record {
  acted : (declined : ℕ) × Often (HasAnswered g.F.FnMut None) declined l.fn.act l.act;
  callable : goal.F-IsAlwaysCallable g l.act;
}
