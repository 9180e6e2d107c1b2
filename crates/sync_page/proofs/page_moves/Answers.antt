use Rattle.std.proofs.Common.{arith}
use Rattle.sync_page.proofs.page_moves.Goals as goal

pub returns-in_default : goal.returns-in_default
returns-in_default c some fits = absurd (omega (arith, some, c.begin.ensures.out))
