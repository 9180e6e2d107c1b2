use Rattle.running_atomic.proofs.Names.{parties_of, key_of, answer_to, plain, sym, act_in}
use Rattle.running_atomic.proofs.AtomicPlays.{comes_to_put, may_put}
use Rattle.running_atomic.proofs.calls.Atomic.replace.Goals as goal

pub put-requires-clause-may : goal.put-requires-clause-may
put-requires-clause-may g c κs within = let z = g.T.AtomicInteger.arithmetic in let k = key_of c.args.self.now.stage in let call = c.args.call.now in let p = parties_of c.args.turn.pass.now in
    may_put z k call (act_in z c.args.act.now).call c.args.new (answer_to z (plain call) c.args.old) c.requires.knows.0 p (λ i. (sym c.requires.acts i).call)
    (comes_to_put z k call c.args.old c.args.new _ c.requires.knows.0 p c.requires.puts c.requires.knows.1)

pub returns-clause-played : goal.returns-clause-played
returns-clause-played g c = λ done knows. c.put.ensures.put _ _ done (comes_to_put _ _ _ _ _ _ _ _ c.requires.puts knows)
