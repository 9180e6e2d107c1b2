use Rattle.running_rw_writer.proofs.AnswerNames.{Pass, parties_of, ◌∙◌, sym, subst, IsToWakeBoth, PlayedRwWriter, both_are_over}
use Rattle.std.specs.Fn.Refs.{Mut-at_ref}
use Rattle.running_model.proofs.Questions.{says_of}
use Rattle.running_rw_writer.proofs.RwLockWriterPreference.wake_both.Goals as goal

pub end_after_two-requires-clause-over : goal.end_after_two-requires-clause-over
end_after_two-requires-clause-over g c = both_are_over _ (subst (λ (p : Pass PlayedRwWriter). IsToWakeBoth (parties_of p)) (sym (c.wake_again-both.ensures.still ∙ c.wake-one.ensures.still)) c.requires.wakes)

pub returns-clause-woke : goal.returns-clause-woke
returns-clause-woke g c = (record { word = _; of = c.requires.counter; says = says_of _ g.W.Fn _ _ _ _ (λ a e. e.met.0) c.wake-one.ensures.woke }, record { word = _; of = c.requires.word; says = says_of _ g.V.Fn _ _ _ _ (λ a e. e.met.0) c.wake_again-both.ensures.woke })

pub wake-one-requires-clause-may : goal.wake-one-requires-clause-may
wake-one-requires-clause-may g c = Mut-at_ref g.W.Fn _ _ c.requires.may_one (λ s a p. p) (λ s a r t e. e.met.1)

pub wake_again-both-requires-clause-may : goal.wake_again-both-requires-clause-may
wake_again-both-requires-clause-may g c = Mut-at_ref g.V.Fn _ _ c.requires.may_all (λ s a p. p) (λ s a r t e. e.met.1)
