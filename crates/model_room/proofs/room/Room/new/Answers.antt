use Rattle.model_room.proofs.Names.{arith}
use Rattle.model_room.proofs.Stands.{new_more, stands_new}
use Rattle.model_room.proofs.room.Room.new.Goals as goal

pub loop-object-preserved : goal.loop-object-preserved
loop-object-preserved g c =
    record {
      count = omega (arith, c.in_ok-push.ensures.len, c.loop-object.invariant.count);
      new =
          rw c.in_ok-push.ensures.items
          (new_more g.T.AtomicInteger.arithmetic c.args.objects.now c.args.parties c.loop-object.machines.items c.loop-object.object-index c.in_ok-new.field-0 c.object-item.result
          (omega (arith, c.loop-object.invariant.count)) (omega arith) c.object-item.is c.loop-object.invariant.new c.in_ok-new.ensures);
    }

pub returns : goal.returns
returns g c = stands_new g.T.AtomicInteger.arithmetic c.args.objects.now c.args.parties _ (omega (arith, c.loop-object.invariant.count)) c.loop-object.invariant.new (c.in_ok-vec.ensures.items_if_clones_equal (λ y is. grind arith))
