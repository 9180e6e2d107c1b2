use Rattle.std.proofs.Common.{subst}
use Rattle.running_passes.specs.Parts.{IsSamePart}
use Rattle.running_sharing.proofs.+shares.Goals as goal

pub returns-clause-again : goal.returns-clause-again
returns-clause-again g t c = let part = g.P.Shares.part in let both = c.join-one.ensures in
    c.mend.ensures.again (part c.args.pass)
    (subst (IsSamePart (part c.join-one.result.0)) c.cut-one.ensures.halves.0 both.first.1.same)
    (subst (IsSamePart (part c.join-one.result.1)) c.cut-one.ensures.halves.1 both.second.1.same)
