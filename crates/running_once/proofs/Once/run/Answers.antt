use Rattle.running_once.proofs.Names.{subst, HasDone, ended, PlayedPass}
use Rattle.running_once.proofs.OnceKeeps.{ends}
use Rattle.running_once.proofs.OncePlays.{is_to_end, runs_still, may_complete, completes}
use Rattle.running_once.proofs.Once.run.Goals as goal

pub run-ran-requires-clause-ends : goal.run-ran-requires-clause-ends
run-ran-requires-clause-ends g c = is_to_end _ _ c.requires.runs.1

pub store-done-requires-clause-may : goal.store-done-requires-clause-may
store-done-requires-clause-may g c = may_complete c.requires.runs.0 _ (runs_still _ _ _ c.run-ran.ensures.still c.requires.runs.1)

pub returns-clause-ended : goal.returns-clause-ended
returns-clause-ended g c = subst (λ (p : PlayedPass). HasDone ended p c.store-done.result.pass.now) c.run-ran.ensures.still
    (ends _ c.run-ran.result.1.pass.now c.store-done.result.pass.now (may_complete c.requires.runs.0 _ (runs_still _ _ _ c.run-ran.ensures.still c.requires.runs.1)) c.store-done.ensures.same c.store-done.ensures.stepped.acted.told)

pub returns-clause-left : goal.returns-clause-left
returns-clause-left g c = λ done at. completes done _ _ (runs_still _ _ _ c.run-ran.ensures.still at) c.store-done.ensures.stepped.went
