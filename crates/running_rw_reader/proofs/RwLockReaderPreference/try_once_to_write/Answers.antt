use Rattle.running_rw_reader.proofs.Names.{Call, Answer, HoldKind, parties_of, rw_reader_model, ◌≡◌, true, Some, None, ◌∙◌, sym, subst, is_over, has_hold, HasPlayed}
use Rattle.running_rw_reader.proofs.RwReaderPlays.{may_write_once, wrote_once, missed_once, granted_has}
use Rattle.running_rw_reader.proofs.RwLockReaderPreference.try_once_to_write.Goals as goal

pub first_write-requires-clause-may : goal.first_write-requires-clause-may
first_write-requires-clause-may g c = may_write_once _

pub end-pass-requires-clause-over : goal.end-pass-requires-clause-over
end-pass-requires-clause-over g c = is_over rw_reader_model Call.TryWriteLock _ _ _ _ (wrote_once _ _ c.in-Ok.ensures.went)

pub end-pass-requires-in-Err-clause-over : goal.end-pass-requires-in-Err-clause-over
end-pass-requires-in-Err-clause-over g c = is_over rw_reader_model Call.TryWriteLock _ _ _ _ (missed_once _ _ _ c.in-Err.ensures.missed.0 c.in-Err.ensures.missed.1)

pub returns-in-Ok-clause-played : goal.returns-in-Ok-clause-played
returns-in-Ok-clause-played g c = subst (λ q. HasPlayed Call.TryWriteLock Answer.Success (Some HoldKind.Write) c.args.pass.now q) (sym (c.pass-1.given.1 (sym c.in-Ok.ensures.same_borrow ∙ sym c.end-pass.ensures.same_borrow) ∙ c.end-pass.ensures.still)) (wrote_once _ _ c.in-Ok.ensures.went)

pub returns-in-Ok-clause-has : goal.returns-in-Ok-clause-has
returns-in-Ok-clause-has g c = λ _. subst (λ q. has_hold HoldKind.Write (parties_of q) ≡ true) (sym (c.pass-1.given.1 (sym c.in-Ok.ensures.same_borrow ∙ sym c.end-pass.ensures.same_borrow) ∙ c.end-pass.ensures.still)) (granted_has Call.TryWriteLock HoldKind.Write _ _ (wrote_once _ _ c.in-Ok.ensures.went))

pub returns-in-Err-clause-played : goal.returns-in-Err-clause-played
returns-in-Err-clause-played g c = subst (λ q. HasPlayed Call.TryWriteLock Answer.Interrupted None c.args.pass.now q) (sym (c.pass-in-Err-1.given.1 (sym c.in-Err.ensures.same_borrow_too ∙ sym c.end-pass-in-Err.ensures.same_borrow) ∙ c.end-pass-in-Err.ensures.still)) (missed_once _ _ _ c.in-Err.ensures.missed.0 c.in-Err.ensures.missed.1)
