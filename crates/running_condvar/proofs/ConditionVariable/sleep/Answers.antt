use Rattle.running_condvar.proofs.Names.{sym, ap, ◌∙◌}
use Rattle.running_condvar.proofs.CondCalls.{sleeps_so}
use Rattle.running_condvar.proofs.ConditionVariable.sleep.Goals as goal

pub returns-clause-slept : goal.returns-clause-slept
returns-clause-slept g c = let gave = c.run-slept.ensures.gave in sleeps_so _ _ _ _ _ _ _ _ _ _ _ _ _
    (ap (λ s. s.wait.now) gave.shows)
    (ap (λ s. s.wait.now) gave.leaves ∙ sym (c.wait-1.given.1 (sym (ap (λ s. s.wait.ghost_name) gave.shows) ∙ sym gave.met.1 ∙ ap (λ s. s.wait.ghost_name) gave.leaves)))
    (ap (λ s. s.permits.now) gave.shows)
    (ap (λ s. s.permits.now) gave.leaves ∙ sym (c.permits-1.given.1 (sym (ap (λ s. s.permits.ghost_name) gave.shows) ∙ sym gave.met.0 ∙ ap (λ s. s.permits.ghost_name) gave.leaves)))
    gave.met.2
