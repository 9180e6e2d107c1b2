use Rattle.running_once.proofs.Names.{rules}
use Rattle.running_once.proofs.OncePlays.{may_stay, leaves_at_last}
use Rattle.running_once.proofs.Once.stay.Goals as goal

pub look-seen-requires-clause-may : goal.look-seen-requires-clause-may
look-seen-requires-clause-may g c = let comes = c.requires.comes in may_stay comes.0 _ (c.loop.invariant.stays comes.0 comes.1)

pub returns-then-seen-eq-COMPLETE-clause-left : goal.returns-then-seen-eq-COMPLETE-clause-left
returns-then-seen-eq-COMPLETE-clause-left g c = λ done at. leaves_at_last _ done _ _ (search rules) (c.loop.invariant.stays done at) c.look-seen.ensures.went
