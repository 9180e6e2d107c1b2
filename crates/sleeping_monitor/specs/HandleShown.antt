-- What contracts see of a monitor.
use Rattle.running_guarded.specs.declared.pass.GuardedPass.{GuardedPass}
use Rattle.sleeping_guarded.specs.HandleShown.{IsSleepingPass}
use Rattle.sleeping_guarded.specs.declared.GuardedHandle.{GuardedHandle}
use Rattle.sleeping_monitor.specs.declared.SleepingMonitor.{SleepingMonitor}
use Rattle.sleeping_monitor.specs.declared.MonitorHandle.{MonitorHandle}

-- the pass is of the value inside
abbrev pub IsMonitorPass : {T A : Type 0} → SleepingMonitor T A → GuardedPass → Type 0
IsMonitorPass m p = IsSleepingPass m.value p

-- the handle of the value inside
abbrev pub value_with : {T A : Type 0} → MonitorHandle T A → GuardedHandle T A
value_with h = h.value
