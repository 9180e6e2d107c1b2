use Rattle.running_atomic.proofs.Names.{u128_arithmetic, opening_of}
use Rattle.running_atomic.proofs.Runs.{is_last, is_last_in_run}
use Rattle.running_atomic.proofs.ends.Atomic+u128+A.into_inner.Goals as goal

pub returns-clause-last : goal.returns-clause-last
returns-clause-last g c = λ whole. is_last u128_arithmetic (opening_of c.args.self) c.args.pass _ _ _ (c.close_two-low.ensures.exact whole) c.args.pass.resting c.from_words.ensures.given

pub returns-clause-in_run : goal.returns-clause-in_run
returns-clause-in_run g c = λ whole. is_last_in_run u128_arithmetic (opening_of c.args.self) c.args.pass _ _ _ (c.close_two-low.ensures.exact whole) c.args.pass.resting c.from_words.ensures.given
