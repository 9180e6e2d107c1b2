use Rattle.running_guarded.proofs.Names.{IsAgain, rules, sym, subst, parts_again, joins_weight, MutexView}
use Rattle.running_guarded.proofs.pass.GuardedPass.join.Goals as goal

pub returns-clause-weights : goal.returns-clause-weights
returns-clause-weights g c = search (rules, joins_weight)

pub returns-clause-again : goal.returns-clause-again
returns-clause-again g c = λ p first second. subst (λ (v : MutexView). IsAgain p v.part) (sym c.absorb.ensures.views) (parts_again _ _ p first second)
