use Rattle.std.specs.Prelude.{◌≡◌}
use Rattle.test_storm.proofs.crowd.take_turns.Given as goal

abbrev pub invariant-loop-turn : goal.invariant-loop-turn
invariant-loop-turn g l = g.P.Shares.idle l.object l.pass × (g.P.Shares.part l.pass ≡ g.P.Shares.part l.fn.pass)
