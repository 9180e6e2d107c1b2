use Rattle.std.proofs.Common.{ap, ◌∙◌}
use Rattle.running_model.specs.Shown.{object_shown, index_shown}
use Rattle.job_queue.proofs.queue.QueueOf.put.Goals as goal

pub returns-in-Ok-clause-notified : goal.returns-in-Ok-clause-notified
returns-in-Ok-clause-notified g c = let woke = c.notify_one.ensures.woke in (c.notify_one.ensures.posted, woke.says.says.met (ap object_shown woke.says.shows ∙ woke.of.0, ap index_shown woke.says.shows ∙ woke.of.1))
