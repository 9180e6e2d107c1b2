use Rattle.running_condvar.proofs.Names.{parties_of, sym, subst, HasDone, went_out, IsOut}
use Rattle.running_condvar.proofs.CondKeeps.{counts_out}
use Rattle.running_condvar.proofs.CondPlays.{may_count_out, goes_out, wait_is_over}
use Rattle.running_condvar.proofs.ConditionVariable.count_out.Goals as goal

pub subtract-over-requires-clause-may : goal.subtract-over-requires-clause-may
subtract-over-requires-clause-may g c = may_count_out c.requires.inside.0 _ c.requires.inside.1

pub end-requires-clause-over : goal.end-requires-clause-over
end-requires-clause-over g c = wait_is_over c.requires.inside.0 _ (goes_out _ _ _ _ c.requires.inside.1 c.subtract-over.ensures.stepped.went)

pub returns-clause-counted : goal.returns-clause-counted
returns-clause-counted g c = subst (λ q. HasDone went_out c.args.slept.pass.now q) (sym c.end.ensures.still)
    (c.subtract-over.ensures.same, counts_out _ _ _ _ _ (may_count_out c.requires.inside.0 _ c.requires.inside.1) c.subtract-over.ensures.stepped.acted.told)

pub returns-clause-out : goal.returns-clause-out
returns-clause-out g c = λ done at. subst (λ q. IsOut done (parties_of q)) (sym c.end.ensures.still) (goes_out _ done _ _ at c.subtract-over.ensures.stepped.went)
