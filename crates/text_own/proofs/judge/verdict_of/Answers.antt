use Rattle.std.proofs.Common.{rules}
use Rattle.text_own.proofs.judge.verdict_of.Goals as goal

pub returns-then-shown : goal.returns-then-shown
returns-then-shown c = (search rules, c.in_ok-shown.ensures (search rules))
