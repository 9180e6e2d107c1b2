use Rattle.running_atomic.proofs.Names.{Call, Answer, HasCalled, Pass, parties_of, key_of, None, sym, subst, ◌∙◌, is_over, atomic_model, PlayedAtomic}
use Rattle.running_atomic.specs.Names.{all_of}
use Rattle.running_atomic.proofs.AtomicPlays.{looks_first}
use Rattle.running_atomic.proofs.calls.Atomic.load_by.Goals as goal

pub try_read-is_in-requires-clause-at : goal.try_read-is_in-requires-clause-at
try_read-is_in-requires-clause-at g c κs within = (all_of (parties_of c.args.pass.now), looks_first _ _ _ _ _ c.first_look-seen.ensures.went)

pub read-value-requires-clause-at : goal.read-value-requires-clause-at
read-value-requires-clause-at g c κs within = (_, c.try_read-is_in.ensures.next c.if-is_in.true _ (looks_first _ _ _ _ _ c.first_look-seen.ensures.went))

pub read_from-locked-requires-clause-at : goal.read_from-locked-requires-clause-at
read_from-locked-requires-clause-at g c κs within = (_, c.try_read-is_in.ensures.again c.if-is_in.false _ (looks_first _ _ _ _ _ c.first_look-seen.ensures.went))

pub end-pass-requires-clause-over : goal.end-pass-requires-clause-over
end-pass-requires-clause-over g c = is_over _ Call.Load _ None _ _ (c.read-value.ensures.ended _ (c.try_read-is_in.ensures.next c.if-is_in.true _ (looks_first _ _ _ _ _ c.first_look-seen.ensures.went)))

pub returns-then-is_in-clause-played : goal.returns-then-is_in-clause-played
returns-then-is_in-clause-played g c = subst (λ (q : Pass (PlayedAtomic g.row.T.Denot)). HasCalled (atomic_model g.T.AtomicInteger.arithmetic (key_of c.args.self.now.stage)) Call.Load (Answer.Value c.read-value.result.0) None (parties_of c.args.pass.now) (parties_of q)) (sym (c.pass-1.given.1 (sym c.first_look-seen.ensures.same_borrow ∙ sym c.try_read-is_in.ensures.same_borrow ∙ sym c.read-value.ensures.same_borrow ∙ sym c.end-pass.ensures.same_borrow) ∙ c.end-pass.ensures.still))
    (c.read-value.ensures.ended _ (c.try_read-is_in.ensures.next c.if-is_in.true _ (looks_first _ _ _ _ _ c.first_look-seen.ensures.went)))

pub read-value-requires-2-clause-at : goal.read-value-requires-2-clause-at
read-value-requires-2-clause-at g c κs within = (_, c.read_from-locked.ensures.next _ (c.try_read-is_in.ensures.again c.if-is_in.false _ (looks_first _ _ _ _ _ c.first_look-seen.ensures.went)))

pub end-pass-requires-2-clause-over : goal.end-pass-requires-2-clause-over
end-pass-requires-2-clause-over g c = is_over _ Call.Load _ None _ _ (c.read-value-2.ensures.ended _ (c.read_from-locked.ensures.next _ (c.try_read-is_in.ensures.again c.if-is_in.false _ (looks_first _ _ _ _ _ c.first_look-seen.ensures.went))))

pub returns-clause-played : goal.returns-clause-played
returns-clause-played g c = subst (λ (q : Pass (PlayedAtomic g.row.T.Denot)). HasCalled (atomic_model g.T.AtomicInteger.arithmetic (key_of c.args.self.now.stage)) Call.Load (Answer.Value c.read-value-2.result.0) None (parties_of c.args.pass.now) (parties_of q)) (sym (c.pass-2-1.given.1 (sym c.first_look-seen.ensures.same_borrow ∙ sym c.try_read-is_in.ensures.same_borrow ∙ sym c.read_from-locked.ensures.same_borrow ∙ sym c.read-value-2.ensures.same_borrow ∙ sym c.end-pass-2.ensures.same_borrow) ∙ c.end-pass-2.ensures.still))
    (c.read-value-2.ensures.ended _ (c.read_from-locked.ensures.next _ (c.try_read-is_in.ensures.again c.if-is_in.false _ (looks_first _ _ _ _ _ c.first_look-seen.ensures.went))))
