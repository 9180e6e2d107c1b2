use Rattle.std.proofs.Common.{ap, ◌∙◌}
use Rattle.running_guarded.specs.GuardedWord.{object_shown}
use Rattle.job_queue.proofs.queue.QueueOf.take.Goals as goal

-- what may answer Abort through the closure that passes on may answer it
pub returns-clause-aborted : goal.returns-clause-aborted
returns-clause-aborted g c = λ _. let may = c.in-Interrupted.ensures.aborted in let asked = may.says.met in record { word = asked.word; seen = asked.seen; named = asked.named ∙ may.named; says = asked.says }

-- what was called of the lock's word passes it on
pub returns-in-Success-clause-woke : goal.returns-in-Success-clause-woke
returns-in-Success-clause-woke g c = let woke = c.when-taken.ensures.woke in woke.says.says.met (ap object_shown woke.says.shows ∙ woke.of)

pub returns-clause-woke : goal.returns-clause-woke
returns-clause-woke g c = let woke = c.when-taken.ensures.woke in woke.says.says.met (ap object_shown woke.says.shows ∙ woke.of)
