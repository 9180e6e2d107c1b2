use Rattle.running_atomic.proofs.Names.{Call, Answer, HoldKind, AtomicPlace, update, HasCalled, Pass, parties_of, key_of, Some, None, refl, sym, subst, rules, ◌∙◌, is_over, atomic_model, Knows, HasActedAt, HasTaken, IsHolding, PlayedAtomic}
use Rattle.running_atomic.specs.Names.{all_of}
use Rattle.running_atomic.proofs.OverCalls.{acts_after, taken_later}
use Rattle.running_atomic.proofs.calls.Atomic.update_by.Goals as goal

pub choose-requires-clause-stands : goal.choose-requires-clause-stands
choose-requires-clause-stands g c = record { call = Call.FetchUpdate; place = AtomicPlace.Again c.take-old.result.0; hold = Some HoldKind.Write; done = _; at = (c.take-old.ensures.knows _ c.write_lock-locked.ensures.next) }

pub put_chosen-last-requires-clause-knows : goal.put_chosen-last-requires-clause-knows
put_chosen-last-requires-clause-knows g c κs within = (c.take-old.result.0, _, (subst (λ (p : Pass (PlayedAtomic g.row.T.Denot)). Knows g.T.AtomicInteger.arithmetic (key_of c.args.self.now.stage) Call.FetchUpdate c.take-old.result.0 (all_of (parties_of c.args.pass.now)) (parties_of p)) (sym c.in-Value.ensures.still) (c.take-old.ensures.knows _ c.write_lock-locked.ensures.next)))

pub end-pass-requires-clause-over : goal.end-pass-requires-clause-over
end-pass-requires-clause-over g c = is_over _ Call.FetchUpdate (Answer.OkOld c.take-old.result.0) None _ _ (c.put_chosen-last.ensures.played c.take-old.result.0 _ (subst (λ (p : Pass (PlayedAtomic g.row.T.Denot)). Knows g.T.AtomicInteger.arithmetic (key_of c.args.self.now.stage) Call.FetchUpdate c.take-old.result.0 (all_of (parties_of c.args.pass.now)) (parties_of p)) (sym c.in-Value.ensures.still) (c.take-old.ensures.knows _ c.write_lock-locked.ensures.next)))

pub returns-in-Value-clause-changed : goal.returns-in-Value-clause-changed
returns-in-Value-clause-changed g c = (
  c.in-Value.chosen.value,
  search rules,
  subst (λ (q : Pass (PlayedAtomic g.row.T.Denot)). HasActedAt g.T.AtomicInteger.arithmetic (key_of c.args.self.now.stage) (update (Some c.in-Value.chosen.value)) (Answer.OkOld c.take-old.result.0) c.args.pass.now q) (sym (c.pass-1.given.1 (sym c.write_lock-locked.ensures.same_borrow ∙ sym c.take-old.ensures.same_borrow ∙ sym c.in-Value.ensures.same_borrow ∙ sym c.put_chosen-last.ensures.same_borrow ∙ sym c.end-pass.ensures.same_borrow) ∙ c.end-pass.ensures.still))
      (acts_after g.T.AtomicInteger.arithmetic (key_of c.args.self.now.stage) _ _ _ _ c.take-old.result.0 c.args.pass.now _ c.put_chosen-last.result.pass.now (subst (λ (p : Pass (PlayedAtomic g.row.T.Denot)). HasTaken g.T.AtomicInteger.arithmetic c.take-old.result.0 c.args.pass.now p) (sym c.in-Value.ensures.still) (taken_later g.T.AtomicInteger.arithmetic c.take-old.result.0 c.args.pass.now c.write_lock-locked.result.pass.now c.take-old.result.1.pass.now c.write_lock-locked.ensures.on c.take-old.ensures.taken)) (c.put_chosen-last.ensures.acted c.take-old.result.0 (subst (λ (p : Pass (PlayedAtomic g.row.T.Denot)). IsHolding g.T.AtomicInteger.arithmetic c.take-old.result.0 p) (sym c.in-Value.ensures.still) c.take-old.ensures.taken.holding)) refl refl),
)

pub returns-in-Value-clause-played_changed : goal.returns-in-Value-clause-played_changed
returns-in-Value-clause-played_changed g c = subst (λ (q : Pass (PlayedAtomic g.row.T.Denot)). HasCalled (atomic_model g.T.AtomicInteger.arithmetic (key_of c.args.self.now.stage)) Call.FetchUpdate (Answer.OkOld c.take-old.result.0) None (parties_of c.args.pass.now) (parties_of q)) (sym (c.pass-1.given.1 (sym c.write_lock-locked.ensures.same_borrow ∙ sym c.take-old.ensures.same_borrow ∙ sym c.in-Value.ensures.same_borrow ∙ sym c.put_chosen-last.ensures.same_borrow ∙ sym c.end-pass.ensures.same_borrow) ∙ c.end-pass.ensures.still)) (c.put_chosen-last.ensures.played c.take-old.result.0 _ (subst (λ (p : Pass (PlayedAtomic g.row.T.Denot)). Knows g.T.AtomicInteger.arithmetic (key_of c.args.self.now.stage) Call.FetchUpdate c.take-old.result.0 (all_of (parties_of c.args.pass.now)) (parties_of p)) (sym c.in-Value.ensures.still) (c.take-old.ensures.knows _ c.write_lock-locked.ensures.next)))

pub keep-last-requires-clause-knows : goal.keep-last-requires-clause-knows
keep-last-requires-clause-knows g c κs within = (c.take-old.result.0, _, (subst (λ (p : Pass (PlayedAtomic g.row.T.Denot)). Knows g.T.AtomicInteger.arithmetic (key_of c.args.self.now.stage) Call.FetchUpdate c.take-old.result.0 (all_of (parties_of c.args.pass.now)) (parties_of p)) (sym c.in-Nothing.ensures.still) (c.take-old.ensures.knows _ c.write_lock-locked.ensures.next)))

pub end-pass-requires-in-Nothing-clause-over : goal.end-pass-requires-in-Nothing-clause-over
end-pass-requires-in-Nothing-clause-over g c = is_over _ Call.FetchUpdate (Answer.ErrOld c.take-old.result.0) None _ _ (c.keep-last.ensures.played c.take-old.result.0 _ (subst (λ (p : Pass (PlayedAtomic g.row.T.Denot)). Knows g.T.AtomicInteger.arithmetic (key_of c.args.self.now.stage) Call.FetchUpdate c.take-old.result.0 (all_of (parties_of c.args.pass.now)) (parties_of p)) (sym c.in-Nothing.ensures.still) (c.take-old.ensures.knows _ c.write_lock-locked.ensures.next)))

pub returns-in-Nothing-clause-kept : goal.returns-in-Nothing-clause-kept
returns-in-Nothing-clause-kept g c = (
  search rules,
  subst (λ (q : Pass (PlayedAtomic g.row.T.Denot)). HasActedAt g.T.AtomicInteger.arithmetic (key_of c.args.self.now.stage) (update None) (Answer.ErrOld c.take-old.result.0) c.args.pass.now q) (sym (c.pass-in-Nothing-1.given.1 (sym c.write_lock-locked.ensures.same_borrow ∙ sym c.take-old.ensures.same_borrow ∙ sym c.in-Nothing.ensures.same_borrow ∙ sym c.keep-last.ensures.same_borrow ∙ sym c.end-pass-in-Nothing.ensures.same_borrow) ∙ c.end-pass-in-Nothing.ensures.still))
      (acts_after g.T.AtomicInteger.arithmetic (key_of c.args.self.now.stage) _ _ _ _ c.take-old.result.0 c.args.pass.now _ c.keep-last.result.pass.now (subst (λ (p : Pass (PlayedAtomic g.row.T.Denot)). HasTaken g.T.AtomicInteger.arithmetic c.take-old.result.0 c.args.pass.now p) (sym c.in-Nothing.ensures.still) (taken_later g.T.AtomicInteger.arithmetic c.take-old.result.0 c.args.pass.now c.write_lock-locked.result.pass.now c.take-old.result.1.pass.now c.write_lock-locked.ensures.on c.take-old.ensures.taken)) (c.keep-last.ensures.acted c.take-old.result.0 (subst (λ (p : Pass (PlayedAtomic g.row.T.Denot)). IsHolding g.T.AtomicInteger.arithmetic c.take-old.result.0 p) (sym c.in-Nothing.ensures.still) c.take-old.ensures.taken.holding)) refl refl),
)

pub returns-in-Nothing-clause-played_kept : goal.returns-in-Nothing-clause-played_kept
returns-in-Nothing-clause-played_kept g c = subst (λ (q : Pass (PlayedAtomic g.row.T.Denot)). HasCalled (atomic_model g.T.AtomicInteger.arithmetic (key_of c.args.self.now.stage)) Call.FetchUpdate (Answer.ErrOld c.take-old.result.0) None (parties_of c.args.pass.now) (parties_of q)) (sym (c.pass-in-Nothing-1.given.1 (sym c.write_lock-locked.ensures.same_borrow ∙ sym c.take-old.ensures.same_borrow ∙ sym c.in-Nothing.ensures.same_borrow ∙ sym c.keep-last.ensures.same_borrow ∙ sym c.end-pass-in-Nothing.ensures.same_borrow) ∙ c.end-pass-in-Nothing.ensures.still)) (c.keep-last.ensures.played c.take-old.result.0 _ (subst (λ (p : Pass (PlayedAtomic g.row.T.Denot)). Knows g.T.AtomicInteger.arithmetic (key_of c.args.self.now.stage) Call.FetchUpdate c.take-old.result.0 (all_of (parties_of c.args.pass.now)) (parties_of p)) (sym c.in-Nothing.ensures.still) (c.take-old.ensures.knows _ c.write_lock-locked.ensures.next)))
