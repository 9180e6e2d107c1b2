-- How the calls of a queue answer.
use Rattle.job_queue.specs.declared.answer.PutFault.{PutFault}
use Rattle.job_queue.specs.declared.answer.Taken.{Taken}

module _ {T : Type 0} where
  -- the job that comes back
  abbrev pub job_of : PutFault T → T
  job_of (PutFault.Closed job) = job
  job_of (PutFault.Full job) = job
  job_of (PutFault.TicketsOut job) = job

  abbrev pub IsEmptyAnswer : Taken T → Type 0
  IsEmptyAnswer (Taken.Job ticket job) = ⊥
  IsEmptyAnswer Taken.Closed = ⊥
  IsEmptyAnswer Taken.Empty = Unit {0}
  IsEmptyAnswer Taken.Interrupted = ⊥

  abbrev pub IsInterrupted : Taken T → Type 0
  IsInterrupted (Taken.Job ticket job) = ⊥
  IsInterrupted Taken.Closed = ⊥
  IsInterrupted Taken.Empty = ⊥
  IsInterrupted Taken.Interrupted = Unit {0}
