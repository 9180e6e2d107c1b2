-- A guard is told by what it has; its facts say nothing more.
use Rattle.running_guarded.proofs.Names.{table_id_coded, HasMutex, has_vacant_slot, ◌≡◌, ◌<◌, true, Bool-set, ℕ_set, le_prop, Coded-set}
use Rattle.running_guarded.specs.GuardedShown.{id_of}
use Rattle.sleeping_guarded.specs.declared.locked.Locked.{Locked}
use Rattle.sleeping_guarded.specs.HandleShown.{guard_with}

module _ {T A : Type 0} (g : Locked T A) (x : T) where
  pub same_locked : (own : g.seat.table_id ≡ id_of g.handle.now.of.now.value) (on : g.seat.me.0.tally.counts.holds ≡ 1) (has : HasMutex g.seat.me.0.tally.parties) (alive : 0 < g.seat.me.0.part.share) (out : has_vacant_slot g.seat.me.1 ≡ true)
      → record { handle = g.handle; seat = g.seat; value = x; own = own; on = on; has = has; alive = alive; out = out } ≡ guard_with g x
  same_locked own on has alive out = λ i. record {
    handle = g.handle;
    seat = g.seat;
    value = x;
    own = Coded-set table_id_coded _ _ own g.own i;
    on = ℕ_set _ _ on g.on i;
    has = Bool-set _ _ has g.has i;
    alive = le_prop alive g.alive i;
    out = Bool-set _ _ out g.out i;
  }
