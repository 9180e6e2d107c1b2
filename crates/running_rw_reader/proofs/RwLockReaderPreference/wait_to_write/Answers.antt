use Rattle.running_rw_reader.proofs.Names.{Call, Answer, HoldKind, all_of, spun, parties_of, rw_reader_model, Beginning, MatchBool-at_true, is_over, either_is_over, ◌≡◌, true, Some, None, MatchBool, ◌∙◌, sym, subst, has_hold, HasPlayed}
use Rattle.running_rw_reader.proofs.RwReaderPlays.{may_write, first_write, write_begins, has_written, found_taken, granted_has}
use Rattle.running_rw_reader.proofs.RwLockReaderPreference.wait_to_write.Goals as goal

pub first_write-requires-clause-may : goal.first_write-requires-clause-may
first_write-requires-clause-may g c = may_write _ _ (first_write _)

pub try_again-entered-requires-clause-at : goal.try_again-entered-requires-clause-at
try_again-entered-requires-clause-at g c = (all_of (parties_of c.args.pass.now), (found_taken (Beginning Call.WriteLock) _ (parties_of c.args.pass.now) _ c.in-Err.ensures.missed.0 c.in-Err.ensures.missed.1 (spun 0) _ (write_begins (parties_of c.args.pass.now))))

pub end-pass-requires-clause-over : goal.end-pass-requires-clause-over
end-pass-requires-clause-over g c = is_over rw_reader_model Call.WriteLock _ _ _ _ (has_written (Beginning Call.WriteLock) (parties_of c.args.pass.now) _ c.in-Ok.ensures.went (spun 0) _ (write_begins (parties_of c.args.pass.now)))

pub end-pass-requires-in-Err-clause-over : goal.end-pass-requires-in-Err-clause-over
end-pass-requires-in-Err-clause-over g c = either_is_over rw_reader_model c.try_again-entered.result.0 Call.WriteLock _ _ _ (c.try_again-entered.ensures.over (all_of (parties_of c.args.pass.now)) (found_taken (Beginning Call.WriteLock) _ (parties_of c.args.pass.now) _ c.in-Err.ensures.missed.0 c.in-Err.ensures.missed.1 (spun 0) _ (write_begins (parties_of c.args.pass.now))))

pub returns-in-Ok-clause-played : goal.returns-in-Ok-clause-played
returns-in-Ok-clause-played g c = subst (λ q. HasPlayed Call.WriteLock Answer.Success (Some HoldKind.Write) c.args.pass.now q) (sym (c.pass-1.given.1 (sym c.in-Ok.ensures.same_borrow ∙ sym c.end-pass.ensures.same_borrow) ∙ c.end-pass.ensures.still)) (has_written (Beginning Call.WriteLock) (parties_of c.args.pass.now) _ c.in-Ok.ensures.went (spun 0) _ (write_begins (parties_of c.args.pass.now)))

pub returns-in-Ok-clause-has : goal.returns-in-Ok-clause-has
returns-in-Ok-clause-has g c = λ _. subst (λ q. has_hold HoldKind.Write (parties_of q) ≡ true) (sym (c.pass-1.given.1 (sym c.in-Ok.ensures.same_borrow ∙ sym c.end-pass.ensures.same_borrow) ∙ c.end-pass.ensures.still)) (granted_has Call.WriteLock HoldKind.Write _ _ (has_written (Beginning Call.WriteLock) (parties_of c.args.pass.now) _ c.in-Ok.ensures.went (spun 0) _ (write_begins (parties_of c.args.pass.now))))

pub returns-in-Err-clause-played : goal.returns-in-Err-clause-played
returns-in-Err-clause-played g c = subst (λ q. MatchBool c.try_again-entered.result.0 (HasPlayed Call.WriteLock Answer.Success (Some HoldKind.Write) c.args.pass.now q) (HasPlayed Call.WriteLock Answer.Interrupted None c.args.pass.now q)) (sym (c.pass-in-Err-1.given.1 (sym c.in-Err.ensures.same_borrow_too ∙ sym c.try_again-entered.ensures.same_borrow ∙ sym c.end-pass-in-Err.ensures.same_borrow) ∙ c.end-pass-in-Err.ensures.still)) (c.try_again-entered.ensures.over (all_of (parties_of c.args.pass.now)) (found_taken (Beginning Call.WriteLock) _ (parties_of c.args.pass.now) _ c.in-Err.ensures.missed.0 c.in-Err.ensures.missed.1 (spun 0) _ (write_begins (parties_of c.args.pass.now))))

pub returns-in-Err-clause-has : goal.returns-in-Err-clause-has
returns-in-Err-clause-has g c = λ done. subst (λ q. has_hold HoldKind.Write (parties_of q) ≡ true) (sym (c.pass-in-Err-1.given.1 (sym c.in-Err.ensures.same_borrow_too ∙ sym c.try_again-entered.ensures.same_borrow ∙ sym c.end-pass-in-Err.ensures.same_borrow) ∙ c.end-pass-in-Err.ensures.still)) (granted_has Call.WriteLock HoldKind.Write _ _ (MatchBool-at_true _ _ done (c.try_again-entered.ensures.over (all_of (parties_of c.args.pass.now)) (found_taken (Beginning Call.WriteLock) _ (parties_of c.args.pass.now) _ c.in-Err.ensures.missed.0 c.in-Err.ensures.missed.1 (spun 0) _ (write_begins (parties_of c.args.pass.now))))))

pub returns-in-Err-clause-aborted : goal.returns-in-Err-clause-aborted
returns-in-Err-clause-aborted g c = c.try_again-entered.ensures.aborted
