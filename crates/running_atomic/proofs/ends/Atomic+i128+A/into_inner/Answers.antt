use Rattle.running_atomic.proofs.Names.{w128, i128_arithmetic, rules, ◌∙◌, to_z-of_z, opening_of}
use Rattle.running_atomic.proofs.Runs.{is_last, is_last_in_run}
use Rattle.running_atomic.proofs.ends.Atomic+i128+A.into_inner.Goals as goal

pub returns-clause-last : goal.returns-clause-last
returns-clause-last g c = λ whole. is_last i128_arithmetic (opening_of c.args.self) c.args.pass _ _ _ (c.close_two-low.ensures.exact whole) c.args.pass.resting (to_z-of_z w128 c.from_words.result (search rules) ∙ c.from_words.ensures.given)

pub returns-clause-in_run : goal.returns-clause-in_run
returns-clause-in_run g c = λ whole. is_last_in_run i128_arithmetic (opening_of c.args.self) c.args.pass _ _ _ (c.close_two-low.ensures.exact whole) c.args.pass.resting (to_z-of_z w128 c.from_words.result (search rules) ∙ c.from_words.ensures.given)
