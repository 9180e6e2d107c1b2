use Rattle.model_room.proofs.Names.{◌≡◌, vec_len}
use Rattle.model_room.proofs.Stands.{AreNew}
use Rattle.model_room.proofs.room.Room.new.Given as goal

-- the machines so far
abbrev pub invariant-loop-object : goal.invariant-loop-object
invariant-loop-object g l =
    record {
      count : vec_len l.machines ≡ l.object-index;
      new : AreNew g.T.AtomicInteger.arithmetic l.objects l.parties l.machines.items;
    }
