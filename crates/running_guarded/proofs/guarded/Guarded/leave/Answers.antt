use Rattle.running_guarded.proofs.Names.{refl, sym, subst, ◌∙◌, is_to_wake, may_unlock, unlocks, unlock_is_over, Lets, PlaysUnlock}
use denote.Param.Always.{mut_next}
use Rattle.running_guarded.proofs.guarded.Guarded.leave.Goals as goal

pub release-turn-requires-clause-may : goal.release-turn-requires-clause-may
release-turn-requires-clause-may g c = may_unlock _ c.requires.has

pub wake-woken-requires-clause-wakes : goal.wake-woken-requires-clause-wakes
wake-woken-requires-clause-wakes g c = is_to_wake 0 c.args.seat.me.0.tally.parties c.release-turn.result.seat.me.0.tally.parties refl c.requires.has (unlocks _ _ c.release-turn.ensures.went)

pub end_aside-requires : goal.end_aside-requires
end_aside-requires g c = record { over = unlock_is_over _ _ c.requires.has (subst (λ s. PlaysUnlock c.args.seat.me.0 s.me.0) (sym c.wake-woken.ensures.still) (unlocks _ _ c.release-turn.ensures.went)) }

pub returns-clause-played : goal.returns-clause-played
returns-clause-played g c = subst (λ s. PlaysUnlock c.args.seat.me.0 s.me.0) (sym (c.end_aside.ensures.still ∙ c.wake-woken.ensures.still)) (unlocks _ _ c.release-turn.ensures.went)

pub returns-clause-off : goal.returns-clause-off
returns-clause-off g c = subst (λ s. Lets c.args.seat.me.0 s.me.0) (sym (c.end_aside.ensures.still ∙ c.wake-woken.ensures.still)) c.release-turn.ensures.off

pub returns-clause-woke : goal.returns-clause-woke
returns-clause-woke g c = record { word = _; of = c.word.ensures.object; called = c.wake-woken.ensures.woke }

pub returns-clause-may_again : goal.returns-clause-may_again
returns-clause-may_again g c = mut_next g.W.FnMut _ _ _ _ _ c.wake-woken.ensures.woke.called refl c.requires.may
