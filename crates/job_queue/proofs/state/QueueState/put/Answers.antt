use Rattle.std.proofs.Common.{arith}
use Rattle.std.proofs.lemmas.List.{length_push}
use Rattle.job_queue.proofs.TicketsFollow.{follow_on}
use Rattle.job_queue.proofs.state.QueueState.put.Goals as goal

pub invariant_of-self : goal.invariant_of-self
invariant_of-self g c =
    let e = c.in-Ok.ensures.ok in
    rw e (record { follow = follow_on c.args.self.now.taken c.args.self.now.ring.items c.args.self.now.put c.args.job c.args.self.now.follow c.args.self.now.up_to; up_to = omega (arith, c.in-Some.ensures.1, c.args.self.now.up_to, length_push c.args.self.now.ring.items (c.args.self.now.put, c.args.job)) })
