use Rattle.running_spin_lock.proofs.Names.{sym, subst, HasPlayedUnlock}
use Rattle.running_spin_lock.proofs.SpinPlays.{may_unlock, unlocks, unlock_is_over}
use Rattle.running_spin_lock.proofs.spin_lock.SpinLock.leave.Goals as goal

pub release-turn-requires-clause-may : goal.release-turn-requires-clause-may
release-turn-requires-clause-may g c = may_unlock _ c.requires.has

pub end-requires : goal.end-requires
end-requires g c = record { over = unlock_is_over _ _ c.requires.has (unlocks _ _ c.release-turn.ensures.went) }

pub returns-clause-played : goal.returns-clause-played
returns-clause-played g c = subst (λ s. HasPlayedUnlock c.args.seat.me.0 s.me.0) (sym c.end.ensures.still) (unlocks _ _ c.release-turn.ensures.went)
