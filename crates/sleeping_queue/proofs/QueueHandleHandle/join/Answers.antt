use Rattle.std.proofs.Common.{sym, ap, subst}
use Rattle.running_passes.specs.Parts.{IsAgain}
use Rattle.running_guarded.specs.GuardedShown.{part_of}
use Rattle.running_passes.proofs.Parts.{parts_again}
use Rattle.job_queue.specs.QueueShown.{state_in}
use Rattle.job_queue.specs.declared.pass.QueuePass.{QueuePass}
use Rattle.sleeping_queue.proofs.QueueHandleHandle.join.Goals as goal

pub returns-clause-again : goal.returns-clause-again
returns-clause-again g c = λ p first second. subst (λ (q : QueuePass). IsAgain p (part_of (state_in q))) (sym c.handle.ensures.pass)
    (subst (IsAgain p) (sym (ap (λ v. v.part) c.in-Ok.ensures.views.state)) (parts_again _ _ p first second))
