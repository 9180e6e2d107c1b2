use denote.Param.Always.{always_mut}
use Rattle.running_model.specs.Asked.{Asked}
use Rattle.running_guarded.proofs.Names.{Call, MutexPlace, mutex_model, IsStanding, OnceStanding, IsLocked, StaysLocked, Bool, ℕ, ◌≡◌, []}
use Rattle.running_guarded.proofs.guarded.Guarded.ask_and_try.Given as goal

abbrev pub invariant-loop : goal.invariant-loop
invariant-loop g l = record {
  same : (l.next.seat.table_id ≡ l.fn.turn.seat.table_id) × (l.next.seat.id ≡ l.fn.turn.seat.id);
  no_slot : l.next.seat.me.1 ≡ [];
  saw : StaysLocked l.fn.turn.seat.me.0 l.next.seat.me.0;
  may : always_mut g.W.FnMut l.wait;
  asked : (after : g.row.W.Denot) (granted : Bool) (now : ℕ) → Asked g.W.FnMut l.word.shown IsLocked 1 l.wait after granted (Unit {0}) l.next.seat.me.0.sights.count now → Asked g.W.FnMut l.word.shown IsLocked 1 l.fn.wait after granted (Unit {0}) l.fn.turn.seat.me.0.sights.count now;
  at : OnceStanding mutex_model Call.Lock MutexPlace.Lock 1 l.fn.turn.seat.me.0.tally.parties (λ done. IsStanding mutex_model Call.Lock MutexPlace.Lock 1 done l.next.seat.me.0.tally.parties);
}
