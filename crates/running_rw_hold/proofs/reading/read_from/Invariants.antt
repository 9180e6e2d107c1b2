use Rattle.running_rw_hold.proofs.Names.{◌≡◌, ℕ, List, part_of, sights_of, HasOnlySeen, parties_of, counts_of, Slot, HasLooked}
use Rattle.model_events.specs.declared.patience.Patience.{Patience}
use Rattle.running_rw_hold.proofs.reading.read_from.Given as goal

-- where nobody else changes the word, no exchange has failed
abbrev pub invariant-loop : goal.invariant-loop
invariant-loop g l = record {
  same_borrow : l.next.pass.ghost_name ≡ l.fn.turn.pass.ghost_name;
  stayed : HasOnlySeen l.fn.turn.pass.now l.next.pass.now;
  last : (sights_of l.next.pass.now).last ≡ l.last;
  once : (g.L.ReadSteps.only (part_of l.fn.turn.pass.now) (counts_of l.fn.turn.pass.now) → l.fn.seen ≡ g.L.ReadSteps.word_of (counts_of l.fn.turn.pass.now)) → g.L.ReadSteps.only (part_of l.fn.turn.pass.now) (counts_of l.fn.turn.pass.now) →
      (l.last ≡ l.fn.seen) × ((sights_of l.next.pass.now).count ≡ (sights_of l.fn.turn.pass.now).count);
  at : (patience : Patience) (done : List (Slot ℕ)) → HasLooked (g.M.Script.model tt) g.L.ReadSteps.once g.L.ReadSteps.place patience l.fn.seen done (parties_of l.fn.turn.pass.now) →
      HasLooked (g.M.Script.model tt) g.L.ReadSteps.once g.L.ReadSteps.place patience l.last done (parties_of l.next.pass.now);
}
