use Rattle.running_passes.specs.Passes as passes
use Rattle.running_condvar.specs.CondShown as conds
use Rattle.running_guarded.specs.GuardedShown as guards
use Rattle.job_queue.specs.QueueShown.{state_in, changed_in}
use Rattle.job_queue.proofs.pass.QueuePass.join.Goals as goal

pub returns-clause-again : goal.returns-clause-again
returns-clause-again g c = λ p one other. record {
  state = c.in-Ok.ensures.again (guards.part_of (state_in p)) one.state other.state;
  waits = c.in-Ok-join.ensures.again (passes.part_of (conds.waits_in (changed_in p))) one.waits other.waits;
  permits = c.in-Ok-join.ensures.permits_again (passes.part_of (conds.permits_in (changed_in p))) one.permits other.permits;
}
