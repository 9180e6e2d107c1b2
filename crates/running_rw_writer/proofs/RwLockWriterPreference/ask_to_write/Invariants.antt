use denote.Param.Always.{always_mut}
use Rattle.running_rw_writer.proofs.AnswerNames.{Bool, AskedCounts, After, RwWriterPlace, parties_of, spun, ◌≡◌, OnceWriting, WriteGoes, HasTried}
use Rattle.running_rw_writer.proofs.RwLockWriterPreference.ask_to_write.Given as goal

abbrev pub invariant-loop : goal.invariant-loop
invariant-loop g l = record {
  same_borrow : l.next.pass.ghost_name ≡ l.fn.turn.pass.ghost_name;
  tried : HasTried 0 l.fn.turn.pass.now l.next.pass.now;
  may : always_mut g.W.FnMut l.wait;
  asked : (after : g.row.W.Denot) (entered : Bool) → AskedCounts g.W.FnMut l.counter.shown l.wait after entered → AskedCounts g.W.FnMut l.counter.shown l.fn.wait after entered;
  at : OnceWriting (After.At (RwWriterPlace.LoadCounter (spun 10000))) (parties_of l.fn.turn.pass.now) (λ done. WriteGoes (After.At (RwWriterPlace.LoadCounter (spun 10000))) done (parties_of l.next.pass.now));
}
