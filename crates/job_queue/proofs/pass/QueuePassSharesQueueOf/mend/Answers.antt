use Rattle.std.proofs.Common.{sym, ap, subst}
use Rattle.running_passes.specs.Parts.{IsAgain}
use Rattle.running_passes.proofs.Parts.{parts_again}
use Rattle.job_queue.proofs.pass.QueuePassSharesQueueOf.mend.Goals as goal

pub returns-clause-again : goal.returns-clause-again
returns-clause-again g c = λ p first second. subst (IsAgain p) (sym (ap (λ v. v.part) c.in-Ok.ensures.views.state)) (parts_again _ _ p first second)
