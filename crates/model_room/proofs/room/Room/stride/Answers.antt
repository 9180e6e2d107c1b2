use Rattle.model_room.proofs.Names.{arith}
use Rattle.model_room.proofs.Strides.{strides_in_place}
use Rattle.model_room.proofs.room.Room.stride.Goals as goal

pub returns-in-Ok-clause-run : goal.returns-in-Ok-clause-run
returns-in-Ok-clause-run g c =
    strides_in_place g.T.AtomicInteger.arithmetic c.args.party c.args.object c.in-Ok.stride.event c.in-Ok.stride.times c.self.view_is (omega arith) c.index_mut.ensures.value (omega arith)
    c.seat_left.ensures c.in-Ok.ensures.some c.in-Ok.ensures.run
