use denote.Param.Always.{always_mut}
use Rattle.running_barrier.proofs.Names.{sights_of, ℕ, AskedEach, parties_of, counted, epoch_of, ◌≡◌, ◌%◌, ◌^◌, Looks, OnceLooking, HasAll, waiters_of, reached_of, HasStayed}
use Rattle.running_barrier.proofs.Barrier.ask.Given as goal

abbrev pub invariant-loop : goal.invariant-loop
invariant-loop g l = record {
  same_borrow : l.next.pass.ghost_name ≡ l.fn.turn.pass.ghost_name;
  stayed : HasStayed l.fn.turn.pass.now l.next.pass.now;
  epoch : epoch_of l.seen ≡ reached_of l.next.pass.now % 2 ^ 32;
  all : HasAll (waiters_of l.fn.self) (counted l.next.pass.now);
  may : always_mut g.W.FnMut l.wait;
  asked : (after : g.row.W.Denot) (now : ℕ) → AskedEach g.W.FnMut l.word.shown l.own_epoch l.wait after (sights_of l.next.pass.now).count now → AskedEach g.W.FnMut l.word.shown l.own_epoch l.fn.wait after (sights_of l.fn.turn.pass.now).count now;
  looks : OnceLooking (waiters_of l.fn.self) l.own_epoch 10000 l.fn.seen (parties_of l.fn.turn.pass.now) (λ done. Looks (waiters_of l.fn.self) l.own_epoch 10000 l.seen done (parties_of l.next.pass.now));
}
