use Rattle.running_model.proofs.Names.{ℕ, Bool, sights_of, object_of, part_of, ◌≡◌, parties_of, counts_of, HasOnlySeen, IsStanding, OnceStanding}
use denote.Param.Always.{always_mut}
use Rattle.running_model.specs.Asked.{Asked}
use Rattle.running_model.proofs.tries.ask_and_try.Given as goal

abbrev pub invariant-loop : goal.invariant-loop
invariant-loop g l = record {
  same_borrow : l.next.pass.ghost_name ≡ l.fn.turn.pass.ghost_name;
  own : object_of l.next.pass.now ≡ g.B.Attempt.object l.by;
  stayed : HasOnlySeen l.fn.turn.pass.now l.next.pass.now;
  refused : g.B.Attempt.refuses l.last;
  may : always_mut g.W.FnMut l.wait;
  asked : (after : g.row.W.Denot) (granted : Bool) (now : ℕ) → Asked g.W.FnMut l.word.shown g.B.Attempt.refuses l.last l.wait after granted (g.B.Attempt.looks_once (part_of l.fn.turn.pass.now) (counts_of l.fn.turn.pass.now)) (sights_of l.next.pass.now).count now → Asked g.W.FnMut l.word.shown g.B.Attempt.refuses l.fn.told l.fn.wait after granted (g.B.Attempt.looks_once (part_of l.fn.turn.pass.now) (counts_of l.fn.turn.pass.now)) (sights_of l.fn.turn.pass.now).count now;
  at : OnceStanding (g.M.Script.model (g.B.Attempt.key l.by)) g.B.Attempt.call g.B.Attempt.place l.initial.last (parties_of l.fn.turn.pass.now)
      (λ done. IsStanding (g.M.Script.model (g.B.Attempt.key l.by)) g.B.Attempt.call g.B.Attempt.place l.last done (parties_of l.next.pass.now));
}
