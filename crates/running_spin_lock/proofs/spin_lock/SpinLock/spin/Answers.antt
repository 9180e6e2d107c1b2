use Rattle.running_spin_lock.proofs.Names.{MatchBool-at_true}
use Rattle.running_spin_lock.proofs.SpinPlays.{may_spin, spin_goes}
use Rattle.running_spin_lock.proofs.spin_lock.SpinLock.spin.Goals as goal

pub swap-free-requires-clause-may : goal.swap-free-requires-clause-may
swap-free-requires-clause-may g c = may_spin g.C.Called.call c.requires.at.0 _ (c.loop.invariant.at c.requires.at.0 c.requires.at.1)

pub returns-then-free-clause-over : goal.returns-then-free-clause-over
returns-then-free-clause-over g c = λ done at. MatchBool-at_true _ _ c.if-free.true (spin_goes _ g.C.Called.call done _ _ g.met.C.Waiting.waits c.swap-free.ensures.tried (c.loop.invariant.at done at))
