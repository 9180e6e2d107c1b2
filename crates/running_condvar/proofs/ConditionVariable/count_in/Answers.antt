use Rattle.running_condvar.proofs.Names.{all_of, parties_of, subst, HasDone, went_in, IsInside}
use Rattle.running_condvar.proofs.CondKeeps.{counts_in}
use Rattle.running_condvar.proofs.CondPlays.{may_count_in, goes_in}
use Rattle.running_condvar.proofs.ConditionVariable.count_in.Goals as goal

pub returns-clause-counted : goal.returns-clause-counted
returns-clause-counted g c = subst (λ p. HasDone went_in p c.add-counted.result.1.pass.now) c.begin_new-begun.ensures.still
    (c.add-counted.ensures.same, counts_in _ _ _ _ _ (may_count_in _) c.add-counted.ensures.stepped.acted.told)

pub returns-clause-inside : goal.returns-clause-inside
returns-clause-inside g c = subst (λ p. IsInside (all_of (parties_of p)) (parties_of c.add-counted.result.1.pass.now)) c.begin_new-begun.ensures.still (goes_in _ _ _ c.add-counted.ensures.stepped.went)
