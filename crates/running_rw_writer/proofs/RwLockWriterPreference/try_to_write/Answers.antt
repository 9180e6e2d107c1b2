use Rattle.running_rw_writer.proofs.AnswerNames.{Call, Answer, HoldKind, Pass, parties_of, rw_writer_model, ◌≡◌, ◌==◌, true, Some, None, MatchBool, ◌∙◌, sym, subst, MatchBool-at_true, either_is_over, PlayedRwWriter, has_hold, HasPlayed, wrote_once, granted_has}
use Rattle.running_rw_writer.proofs.RwLockWriterPreference.try_to_write.Goals as goal

pub end-pass-requires-clause-over : goal.end-pass-requires-clause-over
end-pass-requires-clause-over g c = either_is_over rw_writer_model (c.first_write-found.result.0 == 0) Call.TryWriteLock _ _ _ (wrote_once _ _ _ c.first_write-found.ensures.went)

pub returns-clause-played : goal.returns-clause-played
returns-clause-played g c = subst (λ (q : Pass PlayedRwWriter). MatchBool (c.first_write-found.result.0 == 0) (HasPlayed Call.TryWriteLock Answer.Success (Some HoldKind.Write) c.args.pass.now q) (HasPlayed Call.TryWriteLock Answer.Interrupted None c.args.pass.now q)) (sym (c.pass-1.given.1 (sym c.first_write-found.ensures.same_borrow ∙ sym c.end-pass.ensures.same_borrow) ∙ c.end-pass.ensures.still)) (wrote_once _ _ _ c.first_write-found.ensures.went)

pub returns-clause-has : goal.returns-clause-has
returns-clause-has g c = λ done. subst (λ (q : Pass PlayedRwWriter). has_hold HoldKind.Write (parties_of q) ≡ true) (sym (c.pass-1.given.1 (sym c.first_write-found.ensures.same_borrow ∙ sym c.end-pass.ensures.same_borrow) ∙ c.end-pass.ensures.still)) (granted_has Call.TryWriteLock HoldKind.Write _ _ (MatchBool-at_true _ _ done (wrote_once _ _ _ c.first_write-found.ensures.went)))
