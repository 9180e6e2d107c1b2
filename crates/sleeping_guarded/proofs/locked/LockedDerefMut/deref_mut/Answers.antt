use Rattle.std.proofs.Common.{refl}
use Rattle.sleeping_guarded.proofs.SameLocked.{same_locked}
use Rattle.sleeping_guarded.proofs.locked.LockedDerefMut.deref_mut.Goals as goal

pub returns : goal.returns
returns g c = ((refl, λ w. same_locked c.args.self.now w _ _ _ _ _), record { writes_back = tt; value = refl })
