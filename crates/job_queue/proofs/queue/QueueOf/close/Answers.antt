use Rattle.std.proofs.Common.{ap, ◌∙◌}
use Rattle.running_model.specs.Shown.{object_shown, index_shown}
use Rattle.job_queue.proofs.queue.QueueOf.close.Goals as goal

pub returns-clause-woke : goal.returns-clause-woke
returns-clause-woke g c = let woke = c.notify_all.ensures.woke in (c.go_in.ensures.woke, woke.says.says.met (ap object_shown woke.says.shows ∙ woke.of.0, ap index_shown woke.says.shows ∙ woke.of.1))
