use Rattle.model_room.proofs.Names.{arith, ◌∷◌, take_all, after, plays_next, refuses_next, fault_of}
use Rattle.model_room.proofs.Runs.{each_keeps}
use Rattle.model_room.proofs.playing.play.Goals as goal

pub loop-turn-init : goal.loop-turn-init
loop-turn-init g c =
    record {
      room = c.in-Ok.ensures.capacity;
      count = c.in-Ok.ensures.len;
      plays = rw c.in-Ok.ensures.items (λ objects parties past at. record { run = tt; stands = at; prefixes = each_keeps g.T.AtomicInteger.arithmetic objects parties past at.run });
    }

pub loop-turn-preserved : goal.loop-turn-preserved
loop-turn-preserved g c =
    record {
      room = rw c.push_reserved.ensures.capacity c.loop-turn.invariant.room;
      count = omega (arith, c.push_reserved.ensures.len, c.loop-turn.invariant.count);
      plays =
          rw c.push_reserved.ensures.items
          (λ objects parties past at.
          let before = c.loop-turn.invariant.plays objects parties past at in
          let one = c.in-Ok-step.ensures.next objects parties (after c.loop-turn.events.items past) before.stands in
          plays_next past c.args.schedule.now c.loop-turn.turn-index c.loop-turn.room c.step.new.self c.loop-turn.events.items c.turn-item.result c.in-Ok-step.event
          (omega arith) c.turn-item.is before one.0 one.1 (each_keeps g.T.AtomicInteger.arithmetic objects parties (c.in-Ok-step.event ∷ after c.loop-turn.events.items past) one.1.run));
    }

pub returns-in-Err-clause-err : goal.returns-in-Err-clause-err
returns-in-Err-clause-err g c objects parties past at =
    let before = c.loop-turn.invariant.plays objects parties past at in
    refuses_next (λ now turn. fault_of g.T.AtomicInteger.arithmetic objects parties now turn.party turn.object turn.input) past c.args.schedule.now c.loop-turn.turn-index c.loop-turn.room c.step.new.self c.loop-turn.events.items c.turn-item.result
    c.in-Err.fault (omega arith) c.turn-item.is (omega arith) before c.in-Err.ensures.err (c.in-Err.ensures.fault objects parties (after c.loop-turn.events.items past) before.stands)

pub returns-clause-ok : goal.returns-clause-ok
returns-clause-ok g c =
    rw (take_all c.loop-turn.turn-index c.args.schedule.now c.loop-turn-test.false) at c.loop-turn.invariant.plays
