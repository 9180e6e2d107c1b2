use Rattle.model_room.proofs.Names.{◌≡◌, ◌≤◌, length, take, vec_len, Plays}
use Rattle.std.specs.Vec.{vec_capacity}
use Rattle.model_room.proofs.playing.play.Given as goal

-- what was played so far, and that there is room for the rest
abbrev pub invariant-loop-turn : goal.invariant-loop-turn
invariant-loop-turn g l =
    record {
      room : length l.schedule ≤ vec_capacity l.events;
      count : vec_len l.events ≡ l.turn-index;
      plays : Plays g.T.AtomicInteger.arithmetic (take l.turn-index l.schedule) l.fn.room l.events.items l.room;
    }
