use Rattle.running_model.proofs.Names.{object_of, part_of, sights_of, ◌≡◌, ◌+◌, ◌≤◌, parties_of, counts_of, HasOnlySeen, spun, IsRefused, OnceRefused}
use Rattle.running_model.proofs.tries.spin.Given as goal

abbrev pub invariant-loop-tries : goal.invariant-loop-tries
invariant-loop-tries g l = record {
  same_borrow : l.next.pass.ghost_name ≡ l.fn.turn.pass.ghost_name;
  own : object_of l.next.pass.now ≡ g.B.Attempt.object l.by;
  stayed : HasOnlySeen l.fn.turn.pass.now l.next.pass.now;
  more : (sights_of l.fn.turn.pass.now).count + l.tries ≤ (sights_of l.next.pass.now).count;
  last : (sights_of l.next.pass.now).last ≡ l.last;
  refusing : g.B.Attempt.refuses l.last;
  once : g.B.Attempt.looks_once (part_of l.fn.turn.pass.now) (counts_of l.fn.turn.pass.now) → (sights_of l.next.pass.now).count ≡ (sights_of l.fn.turn.pass.now).count + l.tries;
  at : OnceRefused (g.M.Script.model (g.B.Attempt.key l.by)) g.B.Attempt.call g.B.Attempt.place l.initial.last (parties_of l.fn.turn.pass.now)
      (λ done. IsRefused (g.M.Script.model (g.B.Attempt.key l.by)) g.B.Attempt.call g.B.Attempt.place (spun l.tries) l.last done (parties_of l.next.pass.now));
}
