use Rattle.running_once.proofs.Names.{Call, Answer, all_of, HasCalled, parties_of, rules, None, sym, subst, ◌∙◌, is_over, once_model, PlayedPass}
use Rattle.running_once.proofs.OncePlays.{leaves, comes_to_begin}
use Rattle.running_once.proofs.Once.run_or_wait.Goals as goal

pub begin-is_first-requires-clause-comes : goal.begin-is_first-requires-clause-comes
begin-is_first-requires-clause-comes g c = (all_of (parties_of c.args.pass.now), comes_to_begin _ _ _ (search rules) c.first_look-seen.ensures.went)

pub run-ran-requires-clause-runs : goal.run-ran-requires-clause-runs
run-ran-requires-clause-runs g c = (all_of (parties_of c.args.pass.now), c.begin-is_first.ensures.runs (search rules) _ (comes_to_begin _ _ _ (search rules) c.first_look-seen.ensures.went))

pub stay-left-requires-clause-comes : goal.stay-left-requires-clause-comes
stay-left-requires-clause-comes g c = (all_of (parties_of c.args.pass.now), c.begin-is_first.ensures.stays (search rules) _ (comes_to_begin _ _ _ (search rules) c.first_look-seen.ensures.went))

pub end-pass-requires-clause-over : goal.end-pass-requires-clause-over
end-pass-requires-clause-over g c = is_over once_model Call.CallOnce Answer.Done None (all_of (parties_of c.args.pass.now)) _ (leaves _ _ _ (search rules) c.first_look-seen.ensures.went)

pub end-pass-requires-then-is_first-clause-over : goal.end-pass-requires-then-is_first-clause-over
end-pass-requires-then-is_first-clause-over g c = is_over once_model Call.CallOnce Answer.Done None (all_of (parties_of c.args.pass.now)) _ (c.run-ran.ensures.left _ (c.begin-is_first.ensures.runs (search rules) _ (comes_to_begin _ _ _ (search rules) c.first_look-seen.ensures.went)))

pub end-pass-requires-2-clause-over : goal.end-pass-requires-2-clause-over
end-pass-requires-2-clause-over g c = is_over once_model Call.CallOnce Answer.Done None (all_of (parties_of c.args.pass.now)) _ (c.stay-left.ensures.left _ (c.begin-is_first.ensures.stays (search rules) _ (comes_to_begin _ _ _ (search rules) c.first_look-seen.ensures.went)))

pub returns-then-seen-eq-COMPLETE-clause-played : goal.returns-then-seen-eq-COMPLETE-clause-played
returns-then-seen-eq-COMPLETE-clause-played g c = subst (λ (q : PlayedPass). HasCalled once_model Call.CallOnce Answer.Done None (parties_of c.args.pass.now) (parties_of q)) (sym (c.pass-1.given.1 (sym c.first_look-seen.ensures.same_borrow ∙ sym c.end-pass.ensures.same_borrow) ∙ c.end-pass.ensures.still)) (leaves _ _ _ (search rules) c.first_look-seen.ensures.went)

pub returns-then-is_first-clause-played : goal.returns-then-is_first-clause-played
returns-then-is_first-clause-played g c = subst (λ (q : PlayedPass). HasCalled once_model Call.CallOnce Answer.Done None (parties_of c.args.pass.now) (parties_of q)) (sym (c.pass-then-is_first-1.given.1 (sym c.first_look-seen.ensures.same_borrow ∙ sym c.begin-is_first.ensures.same_borrow ∙ sym c.run-ran.ensures.same_borrow ∙ sym c.end-pass-then-is_first.ensures.same_borrow) ∙ c.end-pass-then-is_first.ensures.still))
    (c.run-ran.ensures.left _ (c.begin-is_first.ensures.runs (search rules) _ (comes_to_begin _ _ _ (search rules) c.first_look-seen.ensures.went)))

pub returns-clause-played : goal.returns-clause-played
returns-clause-played g c = subst (λ (q : PlayedPass). HasCalled once_model Call.CallOnce Answer.Done None (parties_of c.args.pass.now) (parties_of q)) (sym (c.pass-2-1.given.1 (sym c.first_look-seen.ensures.same_borrow ∙ sym c.begin-is_first.ensures.same_borrow ∙ sym c.stay-left.ensures.same_borrow ∙ sym c.end-pass-2.ensures.same_borrow) ∙ c.end-pass-2.ensures.still))
    (c.stay-left.ensures.left _ (c.begin-is_first.ensures.stays (search rules) _ (comes_to_begin _ _ _ (search rules) c.first_look-seen.ensures.went)))
