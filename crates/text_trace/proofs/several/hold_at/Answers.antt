use Rattle.text_trace.proofs.SeveralLaws.{holds_none, holds_some}
use Rattle.text_trace.proofs.several.hold_at.Goals as goal

pub returns-in-Some : goal.returns-in-Some
returns-in-Some g c objects parties past stands =
    let there = c.in-Some.ensures objects parties past stands in
    holds_some g.T.AtomicInteger.arithmetic objects past c.args.object c.args.party there.0 _ there.1 (c.hold.ensures there.0 parties _ there.2)

pub returns-in-None : goal.returns-in-None
returns-in-None g c objects parties past stands = holds_none g.T.AtomicInteger.arithmetic objects past c.args.object c.args.party (c.in-None.ensures objects parties past stands)
