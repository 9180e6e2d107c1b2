-- What contracts see of a queue's state.
use Rattle.job_queue.specs.Jobs.{Jobs}
use Rattle.job_queue.specs.declared.state.QueueState.{QueueState}

module _ {T A : Type 0} where
  abbrev pub shown : QueueState T A → Jobs T
  shown s = record { items = s.ring.items; capacity = s.ring.capacity; put = s.put; taken = s.taken; closed = s.closed }
