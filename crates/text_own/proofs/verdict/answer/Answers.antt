use Rattle.std.proofs.Common.{rules}
use Rattle.text_own.specs.Table.{told_lock}
use Rattle.text_own.proofs.verdict.answer.Goals as goal

pub returns-clause-answers : goal.returns-clause-answers
returns-clause-answers c = record { lock = told_lock c.in_ok-lock.lock; read = search rules; verdict = c.in_ok-verdict.verdict; is_so = c.in_ok-verdict.ensures; told = search rules; shown_is = search rules }
