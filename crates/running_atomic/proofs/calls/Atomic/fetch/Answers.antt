use Rattle.running_atomic.proofs.Names.{HasCalled, key_of, Answer, Pass, parties_of, None, sym, subst, ◌∙◌, is_over, atomic_model, PlayedAtomic}
use Rattle.running_atomic.proofs.AtomicPlays.{answers_so}
use Rattle.running_atomic.proofs.calls.Atomic.fetch.Goals as goal

pub replace-last-requires-clause-knows : goal.replace-last-requires-clause-knows
replace-last-requires-clause-knows g c κs within = (_, (c.take-old.ensures.knows _ c.write_lock-locked.ensures.next))

pub end-pass-requires-clause-over : goal.end-pass-requires-clause-over
end-pass-requires-clause-over g c = is_over _ c.args.call.now _ None _ _ (c.replace-last.ensures.played _ (c.take-old.ensures.knows _ c.write_lock-locked.ensures.next))

pub returns-clause-played : goal.returns-clause-played
returns-clause-played g c = subst (λ (q : Pass (PlayedAtomic g.row.T.Denot)). HasCalled (atomic_model g.T.AtomicInteger.arithmetic (key_of c.args.self.now.stage)) c.args.call.now (Answer.Value c.take-old.result.0) None (parties_of c.args.pass.now) (parties_of q)) (sym (c.pass-1.given.1 (sym c.write_lock-locked.ensures.same_borrow ∙ sym c.take-old.ensures.same_borrow ∙ sym c.replace-last.ensures.same_borrow ∙ sym c.end-pass.ensures.same_borrow) ∙ c.end-pass.ensures.still)) (answers_so _ _ _ _ _ (parties_of c.args.pass.now) _ (c.requires.tells c.take-old.result.0) (c.replace-last.ensures.played _ (c.take-old.ensures.knows _ c.write_lock-locked.ensures.next)))
