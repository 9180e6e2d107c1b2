use Rattle.running_semaphore.proofs.Names.{parties_of, sym, subst, initial_of, HasPlayedPost}
use Rattle.running_semaphore.proofs.SemaphorePlays.{is_to_wake, post_is_over}
use Rattle.running_semaphore.proofs.Semaphore.post_by.Goals as goal

pub wake-woken-requires-clause-wakes : goal.wake-woken-requires-clause-wakes
wake-woken-requires-clause-wakes g c = is_to_wake _ _ c.args.value (parties_of c.args.pass.now) _ c.word.ensures.its.1 c.add-turn.ensures.played

pub end_aside-pass-requires-clause-over : goal.end_aside-pass-requires-clause-over
end_aside-pass-requires-clause-over g c = post_is_over _ c.args.value (parties_of c.args.pass.now) _ (subst (λ q. HasPlayedPost (initial_of c.args.self.now) c.args.value c.args.pass.now q) (sym c.wake-woken.ensures.still) c.add-turn.ensures.played)
