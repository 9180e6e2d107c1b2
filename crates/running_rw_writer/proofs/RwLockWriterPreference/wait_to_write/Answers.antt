use Rattle.running_rw_writer.proofs.AnswerNames.{Call, HoldKind, Pass, refl, all_of, parties_of, ◌≡◌, ◌∙◌, true, sym, subst, MatchBool-at_true, PlayedRwWriter, has_hold, granted_has, MatchBool}
use Rattle.model_events.specs.declared.event.Answer.{Answer}
use Rattle.std.proofs.Common.{Some}
use Rattle.running_rw_writer.specs.RwWriterShown.{HasPlayed, HasPlayedGivingUp, HasWokenBoth}
use Rattle.running_model.proofs.Questions.{aborted_by}
use Rattle.running_rw_writer.proofs.RwLockWriterPreference.wait_to_write.Goals as goal

pub returns-in-Ok-clause-has : goal.returns-in-Ok-clause-has
returns-in-Ok-clause-has g c = λ _. subst (λ (q : Pass PlayedRwWriter). has_hold HoldKind.Write (parties_of q) ≡ true) (sym (c.pass-1.given.1 (sym c.in-Ok.ensures.same_borrow ∙ sym c.end-pass.ensures.same_borrow) ∙ c.end-pass.ensures.still)) (granted_has Call.WriteLock HoldKind.Write _ _ c.in-Ok.ensures.granted)

pub returns-in-Err-clause-has : goal.returns-in-Err-clause-has
returns-in-Err-clause-has g c = λ done. subst (λ (q : Pass PlayedRwWriter). has_hold HoldKind.Write (parties_of q) ≡ true) (sym (c.pass-in-Err-1.given.1 (sym c.in-Err.ensures.same_borrow_too ∙ sym c.write_later-entered.ensures.same_borrow))) (granted_has Call.WriteLock HoldKind.Write _ _ (MatchBool-at_true _ _ done (c.write_later-entered.ensures.played (all_of (parties_of c.args.pass.now)) c.in-Err.ensures.goes_on)))

pub returns-in-Err-clause-played : goal.returns-in-Err-clause-played
returns-in-Err-clause-played g c = subst (λ (q : Pass PlayedRwWriter). MatchBool c.write_later-entered.result.0 (HasPlayed Call.WriteLock Answer.Success (Some HoldKind.Write) c.args.pass.now q) (HasPlayedGivingUp (HasWokenBoth g.K.Fn g.V.Fn g.X.Shown.object g.X.Shown.index c.args.self.now c.args.wake_one.now c.args.wake_all.now) c.args.pass.now q)) (sym (c.pass-in-Err-1.given.1 (sym c.in-Err.ensures.same_borrow_too ∙ sym c.write_later-entered.ensures.same_borrow))) (c.write_later-entered.ensures.played (all_of (parties_of c.args.pass.now)) c.in-Err.ensures.goes_on)

pub returns-in-Err-clause-aborted : goal.returns-in-Err-clause-aborted
returns-in-Err-clause-aborted g c = λ no. aborted_by _ _ _ g.W.Fn c.args.wait (λ f. f ≡ c.args.wait) (λ f a r after good called. (g.met.W.Fn.1.step_stays _ _ _ _ called ∙ good, record { met = subst (λ x. g.W.Fn.post x a r) good ((g.met.W.FnMut.1.post_iff _ _ _).1 (after, called)) })) 0 _ _ _ ⊥ 0 0 c.write_later-entered.ensures.asked.1 refl no
