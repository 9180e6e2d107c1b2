use Rattle.running_mutex.proofs.Names.{parties_of, sym, subst, HasMutex, HasPlayedUnlock}
use Rattle.running_mutex.proofs.MutexPlays.{is_to_wake, unlock_is_over}
use Rattle.running_mutex.proofs.Mutex.leave.Goals as goal

pub wake-woken-requires-clause-wakes : goal.wake-woken-requires-clause-wakes
wake-woken-requires-clause-wakes g c = is_to_wake _ _ _ c.word.ensures.index (subst (λ p. HasMutex (parties_of p)) (sym c.begin_held-begun.ensures.still) c.requires.has) c.release-turn.ensures.played

pub end_aside-pass-requires-clause-over : goal.end_aside-pass-requires-clause-over
end_aside-pass-requires-clause-over g c = unlock_is_over _ _ c.requires.has (let q = c.wake-woken.result.0.pass.now in subst (λ r. HasPlayedUnlock c.args.pass.now r) (sym c.wake-woken.ensures.still) (subst (λ p. HasPlayedUnlock p c.release-turn.result.pass.now) c.begin_held-begun.ensures.still c.release-turn.ensures.played))
