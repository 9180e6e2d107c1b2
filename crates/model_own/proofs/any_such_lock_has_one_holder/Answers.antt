use Rattle.model_own.proofs.OneHolderLaws.{one_holder, answers_tell}
use Rattle.model_own.proofs.any_such_lock_has_one_holder.Goals as goal

pub returns-clause-one : goal.returns-clause-one
returns-clause-one g c = λ z word opening entries roles rows parties past is runs. one_holder z word opening entries roles rows parties past is runs

pub returns-clause-answers : goal.returns-clause-answers
returns-clause-answers g c = λ z word opening entries roles rows parties past is runs. answers_tell z word opening entries roles rows parties past is runs
