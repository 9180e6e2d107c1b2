use Rattle.running_guarded.proofs.Names.{refl}
use Rattle.running_guarded.proofs.SameGuard.{same_guard}
use Rattle.running_guarded.proofs.guard.GuardDerefMut.deref_mut.Goals as goal

pub returns : goal.returns
returns g c = ((refl, λ w. same_guard c.args.self.now w _ _ _ _ _), record { writes_back = tt; value = refl })
