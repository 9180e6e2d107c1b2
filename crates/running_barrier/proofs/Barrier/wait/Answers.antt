use Rattle.running_barrier.proofs.Names.{Call, Answer, all_of, parties_of, barrier_model, rules, sym, subst, ◌∙◌, is_over, waiters_of, HasPlayed, HasFilled}
use Rattle.running_barrier.proofs.BarrierPlays.{looked, refused, fills, stays, is_to_wake, is_over_woken}
use Rattle.running_model.proofs.Questions.{says_of}
use Rattle.running_barrier.proofs.Barrier.wait.Goals as goal

pub end-pass-requires-clause-over : goal.end-pass-requires-clause-over
end-pass-requires-clause-over g c = is_over (barrier_model (waiters_of c.args.self.now)) Call.Wait _ _ _ _ (refused _ _ _ _ (search rules) (looked _ _ _ _ c.first_look-seen.ensures.went))

pub returns-in_default-clause-full : goal.returns-in_default-clause-full
returns-in_default-clause-full g c = subst (λ q. HasPlayed (waiters_of c.args.self.now) Answer.Full c.args.pass.now q) (sym (c.pass-1.given.1 (sym c.first_look-seen.ensures.same_borrow ∙ sym c.end-pass.ensures.same_borrow) ∙ c.end-pass.ensures.still)) (refused _ _ _ _ (search rules) (looked _ _ _ _ c.first_look-seen.ensures.went))

pub arrive-from-requires-clause-looked : goal.arrive-from-requires-clause-looked
arrive-from-requires-clause-looked g c = (all_of (parties_of c.args.pass.now), looked _ _ _ _ c.first_look-seen.ensures.went)

pub wake-woken-requires-clause-wakes : goal.wake-woken-requires-clause-wakes
wake-woken-requires-clause-wakes g c = is_to_wake _ _ (all_of (parties_of c.args.pass.now)) _ c.word-word.ensures.its.1 (fills _ _ _ _ (search rules) (c.arrive-from.ensures.joined _ (looked _ _ _ _ c.first_look-seen.ensures.went)))

pub end_aside-pass-requires-clause-over : goal.end_aside-pass-requires-clause-over
end_aside-pass-requires-clause-over g c = is_over_woken _ (all_of (parties_of c.args.pass.now)) _ (subst (λ q. HasFilled (waiters_of c.args.self.now) c.args.pass.now q) (sym c.wake-woken.ensures.still) (fills _ _ _ _ (search rules) (c.arrive-from.ensures.joined _ (looked _ _ _ _ c.first_look-seen.ensures.went))))

pub returns-then-fills-clause-filled : goal.returns-then-fills-clause-filled
returns-then-fills-clause-filled g c = λ _. subst (λ q. HasFilled (waiters_of c.args.self.now) c.args.pass.now q) (sym (c.pass-then-fills-1.given.1 (sym c.first_look-seen.ensures.same_borrow ∙ sym c.arrive-from.ensures.same_borrow ∙ sym c.wake-woken.ensures.same_borrow ∙ sym c.end_aside-pass.ensures.same_borrow) ∙ c.end_aside-pass.ensures.still ∙ c.wake-woken.ensures.still)) (fills _ _ _ _ (search rules) (c.arrive-from.ensures.joined _ (looked _ _ _ _ c.first_look-seen.ensures.went)))

pub returns-then-fills-clause-woke : goal.returns-then-fills-clause-woke
returns-then-fills-clause-woke g c = λ _. record { word = _; of = c.word-word.ensures.its; says = says_of _ g.K.Fn _ _ _ _ (λ a e. (g.met.K.FnMut.1.post_iff _ _ _).1 (_, e)) c.wake-woken.ensures.woke }

pub stay-left-requires-clause-comes : goal.stay-left-requires-clause-comes
stay-left-requires-clause-comes g c = (all_of (parties_of c.args.pass.now), stays _ _ _ _ _ c.epoch_of.ensures (search rules) (c.arrive-from.ensures.joined _ (looked _ _ _ _ c.first_look-seen.ensures.went)))

pub end-pass-requires-2-clause-over : goal.end-pass-requires-2-clause-over
end-pass-requires-2-clause-over g c = is_over (barrier_model (waiters_of c.args.self.now)) Call.Wait _ _ _ _ (c.stay-left.ensures.left (all_of (parties_of c.args.pass.now)) (stays _ _ _ _ _ c.epoch_of.ensures (search rules) (c.arrive-from.ensures.joined _ (looked _ _ _ _ c.first_look-seen.ensures.went))))

pub returns-clause-played : goal.returns-clause-played
returns-clause-played g c = λ _. subst (λ q. HasPlayed (waiters_of c.args.self.now) Answer.Ok c.args.pass.now q) (sym (c.pass-2-1.given.1 (sym c.first_look-seen.ensures.same_borrow ∙ sym c.arrive-from.ensures.same_borrow ∙ sym c.stay-left.ensures.same_borrow ∙ sym c.end-pass-2.ensures.same_borrow) ∙ c.end-pass-2.ensures.still)) (c.stay-left.ensures.left (all_of (parties_of c.args.pass.now)) (stays _ _ _ _ _ c.epoch_of.ensures (search rules) (c.arrive-from.ensures.joined _ (looked _ _ _ _ c.first_look-seen.ensures.went))))
