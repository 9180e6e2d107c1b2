-- What a queue is, as contracts see it, and what each call answers and leaves.
use Rattle.std.specs.Prelude.{ℕ, ◌+◌, ◌^◌, nat_lt, List, [], ◌∷◌, ◌++◌, length, Option, Some, None, Bool, true, false, if◌then◌else◌}
use Rattle.job_queue.specs.declared.answer.PutFault.{PutFault}
use Rattle.job_queue.specs.declared.answer.Taken.{Taken}

-- the jobs in it with their tickets, the oldest first; how many there may be; the tickets of the next that is put, and of the next
-- that is taken; whether it is closed
pub record Jobs (T : Type 0) : Type 0 where
  pub items : List (ℕ × T)
  pub capacity : ℕ
  pub put : ℕ
  pub taken : ℕ
  pub closed : Bool

module _ {T : Type 0} where
  -- an open queue without jobs
  abbrev pub no_jobs : ℕ → ℕ → Jobs T
  no_jobs capacity ticket = record { items = []; capacity = capacity; put = ticket; taken = ticket; closed = false }

  -- why this job is not put, if it is not
  abbrev pub refusal : Jobs T → T → Option (PutFault T)
  refusal s job =
      if s.closed then Some (PutFault.Closed job)
      else if nat_lt (length s.items) s.capacity
      then (if nat_lt (s.put + 1) (2 ^ 64) then None else Some (PutFault.TicketsOut job))
      else Some (PutFault.Full job)

  -- this job stands at its end, with the next ticket
  abbrev pub with_job : Jobs T → T → Jobs T
  with_job s job = record s { items = s.items ++ (s.put, job) ∷ []; put = s.put + 1 }

  -- what a take answers, by whether the queue is closed and the jobs in it
  abbrev pub first_of : Bool → List (ℕ × T) → Taken T
  first_of closed [] = if closed then Taken.Closed else Taken.Empty
  first_of closed (job ∷ jobs) = Taken.Job job.0 job.1

  -- and what it leaves
  abbrev pub rest_of : Jobs T → List (ℕ × T) → Jobs T
  rest_of s [] = s
  rest_of s (job ∷ jobs) = record s { items = jobs; taken = s.taken + 1 }

  abbrev pub first_in : Jobs T → Taken T
  first_in s = first_of s.closed s.items

  abbrev pub without_first : Jobs T → Jobs T
  without_first s = rest_of s s.items

  abbrev pub closed_now : Jobs T → Jobs T
  closed_now s = record s { closed = true }
