use Rattle.running_atomic.proofs.Names.{HasCalled, Answer, Pass, parties_of, key_of, None, sym, subst, ◌∙◌, is_over, atomic_model, PlayedAtomic}
use Rattle.running_atomic.proofs.AtomicPlays.{may_leave, leaves, answers_so, differs}
use Rattle.running_atomic.proofs.OverCalls.{answers_same}
use Rattle.running_atomic.proofs.calls.Atomic.exchange.Goals as goal

pub leave_write-last-requires-clause-may : goal.leave_write-last-requires-clause-may
leave_write-last-requires-clause-may g c κs within =
    may_leave _ _ _ _ _ _ (differs _ _ _ c.args.current c.compare-old.result.0 c.args.new _ _ (c.requires.compares c.compare-old.result.0) (sym c.is_same.ensures ∙ c.if-is_same.false) (c.compare-old.ensures.knows _ c.write_lock-locked.ensures.next))

pub replace-last-requires-clause-knows : goal.replace-last-requires-clause-knows
replace-last-requires-clause-knows g c κs within = (_, (c.compare-old.ensures.knows _ c.write_lock-locked.ensures.next))

pub end-pass-requires-clause-over : goal.end-pass-requires-clause-over
end-pass-requires-clause-over g c = is_over _ c.args.call.now _ None _ _ (c.replace-last.ensures.played _ (c.compare-old.ensures.knows _ c.write_lock-locked.ensures.next))

pub end-pass-requires-else-is_same-clause-over : goal.end-pass-requires-else-is_same-clause-over
end-pass-requires-else-is_same-clause-over g c = is_over _ c.args.call.now _ None _ _ (leaves _ _ _ _ _ _ _ (differs _ _ _ c.args.current c.compare-old.result.0 c.args.new _ _ (c.requires.compares c.compare-old.result.0) (sym c.is_same.ensures ∙ c.if-is_same.false) (c.compare-old.ensures.knows _ c.write_lock-locked.ensures.next)) c.leave_write-last.ensures.went)

pub returns-then-is_same-clause-played_changed : goal.returns-then-is_same-clause-played_changed
returns-then-is_same-clause-played_changed g c = subst (λ (q : Pass (PlayedAtomic g.row.T.Denot)). HasCalled (atomic_model g.T.AtomicInteger.arithmetic (key_of c.args.self.now.stage)) c.args.call.now (Answer.OkOld c.compare-old.result.0) None (parties_of c.args.pass.now) (parties_of q)) (sym (c.pass-1.given.1 (sym c.write_lock-locked.ensures.same_borrow ∙ sym c.compare-old.ensures.same_borrow ∙ sym c.replace-last.ensures.same_borrow ∙ sym c.end-pass.ensures.same_borrow) ∙ c.end-pass.ensures.still))
    (answers_so _ _ _ _ _ (parties_of c.args.pass.now) _ (answers_same g.T.AtomicInteger.arithmetic (key_of c.args.self.now.stage) c.args.call.now c.args.current c.compare-old.result.0 c.args.new (c.requires.acts c.compare-old.result.0) (sym c.is_same.ensures ∙ c.if-is_same.true)) (c.replace-last.ensures.played _ (c.compare-old.ensures.knows _ c.write_lock-locked.ensures.next)))

pub returns-else-is_same-clause-played_kept : goal.returns-else-is_same-clause-played_kept
returns-else-is_same-clause-played_kept g c = subst (λ (q : Pass (PlayedAtomic g.row.T.Denot)). HasCalled (atomic_model g.T.AtomicInteger.arithmetic (key_of c.args.self.now.stage)) c.args.call.now (Answer.ErrOld c.compare-old.result.0) None (parties_of c.args.pass.now) (parties_of q)) (sym (c.pass-else-is_same-1.given.1 (sym c.write_lock-locked.ensures.same_borrow ∙ sym c.compare-old.ensures.same_borrow ∙ sym c.leave_write-last.ensures.same_borrow ∙ sym c.end-pass-else-is_same.ensures.same_borrow) ∙ c.end-pass-else-is_same.ensures.still))
    (leaves _ _ _ _ _ _ _ (differs _ _ _ c.args.current c.compare-old.result.0 c.args.new _ _ (c.requires.compares c.compare-old.result.0) (sym c.is_same.ensures ∙ c.if-is_same.false) (c.compare-old.ensures.knows _ c.write_lock-locked.ensures.next)) c.leave_write-last.ensures.went)
