-- What contracts say of a thread at a mutex as of POSIX.
use Rattle.std.specs.Prelude.{ℕ}
use Rattle.demo_posix.specs.declared.mutex.Kind.{Kind}
use Rattle.demo_posix.specs.declared.mutex.Thread.{Thread}
use Rattle.demo_posix.specs.declared.mutex.Mutex.{Mutex}
use Rattle.running_mutex.specs.MutexShown.{MutexPass}
use Rattle.sleeping_mutex.specs.HandleShown.{IsSleepingPass}

-- of which kind a mutex is, and that of a thread
abbrev pub kind_in : Mutex → Kind
kind_in m = m.kind

abbrev pub kind_of : Thread → Kind
kind_of t = t.of.now.kind

-- how often it has the mutex locked
abbrev pub depth_of : Thread → ℕ
depth_of t = t.depth

-- the pass is the mutex's
abbrev pub IsPassOf : Mutex → MutexPass → Type 0
IsPassOf m p = IsSleepingPass m.mutex p
