use Rattle.running_rw_hold.proofs.Names.{◌≡◌, ◌==◌, true, Some, None, MatchBool, inl, ◌∙◌, sym, subst, MatchBool-at_true, Call, HoldKind, is_holding, parties_of, HasCalled, all_of, spun, holding_is}
use Rattle.model_events.specs.declared.event.Answer.{Answer}
use Rattle.running_model.proofs.Over.{is_over, either_is_over}
use Rattle.running_rw_hold.proofs.RwTries.{begins_so}
use Rattle.running_rw_hold.proofs.reading.try_to_read.Goals as goal

pub first_look-seen-requires-clause-may : goal.first_look-seen-requires-clause-may
first_look-seen-requires-clause-may g c = inl (record { patience = spun 0; done = all_of (parties_of c.args.pass.now); comes = begins_so _ _ _ _ g.met.L.ReadSteps.begins_once })

pub enter-found-requires-clause-may : goal.enter-found-requires-clause-may
enter-found-requires-clause-may g c = inl (all_of (parties_of c.args.pass.now), c.first_look-seen.ensures.looked.once_led (spun 0) _ (begins_so _ _ _ _ g.met.L.ReadSteps.begins_once))

pub end-pass-requires-clause-over : goal.end-pass-requires-clause-over
end-pass-requires-clause-over g c = either_is_over _ (c.enter-found.result.0 == c.first_look-seen.result.0) Call.TryReadLock _ _ _ (c.enter-found.ensures.tried.once_led (all_of (parties_of c.args.pass.now)) (c.first_look-seen.ensures.looked.once_led (spun 0) _ (begins_so _ _ _ _ g.met.L.ReadSteps.begins_once)))

pub end-pass-requires-in-None-clause-over : goal.end-pass-requires-in-None-clause-over
end-pass-requires-in-None-clause-over g c = is_over _ Call.TryReadLock _ _ _ _ (c.room.ensures.once c.in-None.is (all_of (parties_of c.args.pass.now)) _ (c.first_look-seen.ensures.looked.once_led (spun 0) _ (begins_so _ _ _ _ g.met.L.ReadSteps.begins_once)))

pub returns-in-Some-clause-played : goal.returns-in-Some-clause-played
returns-in-Some-clause-played g c = subst (λ q. MatchBool (c.enter-found.result.0 == c.first_look-seen.result.0) (HasCalled (g.M.Script.model tt) Call.TryReadLock Answer.Success (Some HoldKind.Read) (parties_of c.args.pass.now) (parties_of q)) (HasCalled (g.M.Script.model tt) Call.TryReadLock Answer.Interrupted None (parties_of c.args.pass.now) (parties_of q)))
    (sym (c.pass-1.given.1 (sym c.first_look-seen.ensures.same_borrow ∙ sym c.enter-found.ensures.same_borrow ∙ sym c.end-pass.ensures.same_borrow) ∙ c.end-pass.ensures.still))
    (c.enter-found.ensures.tried.once_led (all_of (parties_of c.args.pass.now)) (c.first_look-seen.ensures.looked.once_led (spun 0) _ (begins_so _ _ _ _ g.met.L.ReadSteps.begins_once)))

pub returns-in-Some-clause-has : goal.returns-in-Some-clause-has
returns-in-Some-clause-has g c = λ same. subst (λ q. is_holding (g.M.Script.model tt).table HoldKind.Read (parties_of q) ≡ true)
    (sym (c.pass-1.given.1 (sym c.first_look-seen.ensures.same_borrow ∙ sym c.enter-found.ensures.same_borrow ∙ sym c.end-pass.ensures.same_borrow) ∙ c.end-pass.ensures.still))
    (holding_is (g.M.Script.model tt) HoldKind.Read _ _ (MatchBool-at_true _ _ same (c.enter-found.ensures.tried.once_led (all_of (parties_of c.args.pass.now)) (c.first_look-seen.ensures.looked.once_led (spun 0) _ (begins_so _ _ _ _ g.met.L.ReadSteps.begins_once)))).rests)

pub returns-in-None-clause-played : goal.returns-in-None-clause-played
returns-in-None-clause-played g c = subst (λ q. HasCalled (g.M.Script.model tt) Call.TryReadLock Answer.Interrupted None (parties_of c.args.pass.now) (parties_of q))
    (sym (c.pass-in-None-1.given.1 (sym c.first_look-seen.ensures.same_borrow ∙ sym c.end-pass-in-None.ensures.same_borrow) ∙ c.end-pass-in-None.ensures.still))
    (c.room.ensures.once c.in-None.is (all_of (parties_of c.args.pass.now)) _ (c.first_look-seen.ensures.looked.once_led (spun 0) _ (begins_so _ _ _ _ g.met.L.ReadSteps.begins_once)))
