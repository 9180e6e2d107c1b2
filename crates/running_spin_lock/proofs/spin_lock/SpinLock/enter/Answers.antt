use Rattle.running_spin_lock.proofs.Names.{Answer, HoldKind, all_of, Some, sym, subst, MatchBool-at_true, MatchBool-at_false, is_over, spin_model, HasPlayed}
use Rattle.running_spin_lock.proofs.SpinPlays.{first_goes, granted_has}
use Rattle.running_spin_lock.proofs.spin_lock.SpinLock.enter.Goals as goal

pub end-requires : goal.end-requires
end-requires g c = record { over = is_over spin_model g.C.Called.call _ _ _ _ (MatchBool-at_true _ _ c.if-free.true (first_goes _ g.C.Called.call _ _ g.met.C.Waiting.waits c.first-free.ensures.tried)) }

pub returns-then-free-clause-played : goal.returns-then-free-clause-played
returns-then-free-clause-played g c = subst (λ q. HasPlayed g.C.Called.call Answer.Success (Some HoldKind.Write) c.args.seat.me.0 q.me.0) (sym c.end.ensures.still)
    (MatchBool-at_true _ _ c.if-free.true (first_goes _ g.C.Called.call _ _ g.met.C.Waiting.waits c.first-free.ensures.tried))

pub returns-then-free-clause-has : goal.returns-then-free-clause-has
returns-then-free-clause-has g c = granted_has g.C.Called.call (all_of c.args.seat.me.0.tally.parties) _ (returns-then-free-clause-played g c)

pub spin-granted-requires-clause-at : goal.spin-granted-requires-clause-at
spin-granted-requires-clause-at g c = (all_of c.args.seat.me.0.tally.parties, MatchBool-at_false _ _ c.if-free.false (first_goes _ g.C.Called.call _ _ g.met.C.Waiting.waits c.first-free.ensures.tried))

pub end-requires-2 : goal.end-requires-2
end-requires-2 g c = record { over = is_over spin_model g.C.Called.call _ _ _ _ (c.spin-granted.ensures.over (all_of c.args.seat.me.0.tally.parties) (MatchBool-at_false _ _ c.if-free.false (first_goes _ g.C.Called.call _ _ g.met.C.Waiting.waits c.first-free.ensures.tried))) }

pub returns-clause-played : goal.returns-clause-played
returns-clause-played g c = subst (λ q. HasPlayed g.C.Called.call Answer.Success (Some HoldKind.Write) c.args.seat.me.0 q.me.0) (sym c.end-2.ensures.still)
    (c.spin-granted.ensures.over (all_of c.args.seat.me.0.tally.parties) (MatchBool-at_false _ _ c.if-free.false (first_goes _ g.C.Called.call _ _ g.met.C.Waiting.waits c.first-free.ensures.tried)))

pub returns-clause-has : goal.returns-clause-has
returns-clause-has g c = granted_has g.C.Called.call (all_of c.args.seat.me.0.tally.parties) _ (returns-clause-played g c)
