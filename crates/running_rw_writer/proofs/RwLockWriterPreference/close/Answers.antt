use Rattle.running_rw_writer.proofs.AnswerNames.{arith, closes}
use Rattle.running_rw_writer.proofs.RwLockWriterPreference.close.Goals as goal

pub returns-clause-exact : goal.returns-clause-exact
returns-clause-exact g c = λ whole. closes _ _ (c.close.ensures.exact whole) c.args.pass.unflagged

pub returns-clause-free : goal.returns-clause-free
returns-clause-free g c = λ alone. let is = closes _ _ (c.close.ensures.exact alone.0) c.args.pass.unflagged in omega (arith, is, alone.1, alone.2)
