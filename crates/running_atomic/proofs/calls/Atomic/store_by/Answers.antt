use Rattle.running_atomic.proofs.Names.{Call, Answer, HasCalled, Pass, parties_of, key_of, None, sym, subst, ◌∙◌, refl, is_over, atomic_model, PlayedAtomic}
use Rattle.running_atomic.proofs.AtomicPlays.{may_put, takes_first, misses_first}
use Rattle.running_atomic.proofs.calls.Atomic.store_by.Goals as goal

pub put-last-requires-clause-may : goal.put-last-requires-clause-may
put-last-requires-clause-may g c κs within = may_put g.T.AtomicInteger.arithmetic (key_of c.args.self.now.stage) (Call.Store c.args.value) _ c.args.value Answer.Done _ (parties_of c.first_enter-found.result.1.pass.now) (λ i. (sym c.act_of-act.ensures.act i).call) (takes_first g.T.AtomicInteger.arithmetic (key_of c.args.self.now.stage) (Call.Store c.args.value) _ _ _ (record { begins = refl; grants = refl; free = refl }) c.act_of-act.ensures.values c.if-found-eq0.true c.first_enter-found.ensures.went)

pub end-pass-requires-clause-over : goal.end-pass-requires-clause-over
end-pass-requires-clause-over g c = is_over _ (Call.Store c.args.value) Answer.Done None _ _ (c.put-last.ensures.put _ _ _ (takes_first g.T.AtomicInteger.arithmetic (key_of c.args.self.now.stage) (Call.Store c.args.value) _ _ _ (record { begins = refl; grants = refl; free = refl }) c.act_of-act.ensures.values c.if-found-eq0.true c.first_enter-found.ensures.went))

pub returns-then-found-eq0-clause-played : goal.returns-then-found-eq0-clause-played
returns-then-found-eq0-clause-played g c = subst (λ (q : Pass (PlayedAtomic g.row.T.Denot)). HasCalled (atomic_model g.T.AtomicInteger.arithmetic (key_of c.args.self.now.stage)) (Call.Store c.args.value) Answer.Done None (parties_of c.args.pass.now) (parties_of q)) (sym (c.pass-1.given.1 (sym c.first_enter-found.ensures.same_borrow ∙ sym c.put-last.ensures.same_borrow ∙ sym c.end-pass.ensures.same_borrow) ∙ c.end-pass.ensures.still)) (c.put-last.ensures.put _ _ _ (takes_first g.T.AtomicInteger.arithmetic (key_of c.args.self.now.stage) (Call.Store c.args.value) _ _ _ (record { begins = refl; grants = refl; free = refl }) c.act_of-act.ensures.values c.if-found-eq0.true c.first_enter-found.ensures.went))

pub write_later-locked-requires-clause-at : goal.write_later-locked-requires-clause-at
write_later-locked-requires-clause-at g c κs within = (_, (misses_first g.T.AtomicInteger.arithmetic (key_of c.args.self.now.stage) (Call.Store c.args.value) _ _ _ (record { begins = refl; grants = refl; free = refl }) c.act_of-act.ensures.values c.if-found-eq0.false c.first_enter-found.ensures.went))

pub put-last-requires-2-clause-may : goal.put-last-requires-2-clause-may
put-last-requires-2-clause-may g c κs within = may_put g.T.AtomicInteger.arithmetic (key_of c.args.self.now.stage) (Call.Store c.args.value) _ c.args.value Answer.Done _ (parties_of c.write_later-locked.result.pass.now) (λ i. (sym c.act_of-act.ensures.act i).call) (c.write_later-locked.ensures.next _ (misses_first g.T.AtomicInteger.arithmetic (key_of c.args.self.now.stage) (Call.Store c.args.value) _ _ _ (record { begins = refl; grants = refl; free = refl }) c.act_of-act.ensures.values c.if-found-eq0.false c.first_enter-found.ensures.went))

pub end-pass-requires-2-clause-over : goal.end-pass-requires-2-clause-over
end-pass-requires-2-clause-over g c = is_over _ (Call.Store c.args.value) Answer.Done None _ _ (c.put-last-2.ensures.put _ _ _ (c.write_later-locked.ensures.next _ (misses_first g.T.AtomicInteger.arithmetic (key_of c.args.self.now.stage) (Call.Store c.args.value) _ _ _ (record { begins = refl; grants = refl; free = refl }) c.act_of-act.ensures.values c.if-found-eq0.false c.first_enter-found.ensures.went)))

pub returns-clause-played : goal.returns-clause-played
returns-clause-played g c = subst (λ (q : Pass (PlayedAtomic g.row.T.Denot)). HasCalled (atomic_model g.T.AtomicInteger.arithmetic (key_of c.args.self.now.stage)) (Call.Store c.args.value) Answer.Done None (parties_of c.args.pass.now) (parties_of q)) (sym (c.pass-2-1.given.1 (sym c.first_enter-found.ensures.same_borrow ∙ sym c.write_later-locked.ensures.same_borrow ∙ sym c.put-last-2.ensures.same_borrow ∙ sym c.end-pass-2.ensures.same_borrow) ∙ c.end-pass-2.ensures.still)) (c.put-last-2.ensures.put _ _ _ (c.write_later-locked.ensures.next _ (misses_first g.T.AtomicInteger.arithmetic (key_of c.args.self.now.stage) (Call.Store c.args.value) _ _ _ (record { begins = refl; grants = refl; free = refl }) c.act_of-act.ensures.values c.if-found-eq0.false c.first_enter-found.ensures.went)))
