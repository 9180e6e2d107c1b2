use Rattle.std.proofs.Common.{ap, ◌∙◌}
use Rattle.running_guarded.specs.GuardedWord.{object_shown}
use Rattle.job_queue.proofs.queue.QueueOf.go_in.Goals as goal

-- what was called of the lock's word passes it on
pub returns-clause-woke : goal.returns-clause-woke
returns-clause-woke g c = let woke = c.in-Success.ensures.woke in woke.says.says.met (ap object_shown woke.says.shows ∙ woke.of)
