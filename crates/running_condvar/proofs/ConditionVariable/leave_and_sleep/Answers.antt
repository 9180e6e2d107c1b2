use Rattle.running_condvar.proofs.Names.{Call, Answer, all_of, parties_of, sym, subst, ◌∙◌, HasDone, HasSlept, initial_of, IsInside, Plays, went_out}
use Rattle.running_condvar.specs.Cond.{one_more}
use Rattle.running_condvar.proofs.CondCalls.{counted_twice, slept_so}
use Rattle.running_condvar.proofs.ConditionVariable.leave_and_sleep.Goals as goal

pub returns-clause-counted : goal.returns-clause-counted
returns-clause-counted g c = subst (λ q. HasDone one_more c.args.waits.now q) (sym (c.waits-1.given.1 (sym c.count_in-counted.ensures.same_borrow ∙ sym c.sleep-slept.ensures.same_borrow ∙ sym c.count_out-waits.ensures.same_borrow)))
    (counted_twice c.args.waits.now c.count_in-counted.result.pass.now c.count_out-waits.result.now c.count_in-counted.ensures.counted (subst (λ p. HasDone went_out p c.count_out-waits.result.now) c.sleep-slept.ensures.still c.count_out-waits.ensures.counted))

pub returns-clause-played : goal.returns-clause-played
returns-clause-played g c = subst (λ q. Plays Call.Wait Answer.Done (parties_of c.args.waits.now) (parties_of q)) (sym (c.waits-1.given.1 (sym c.count_in-counted.ensures.same_borrow ∙ sym c.sleep-slept.ensures.same_borrow ∙ sym c.count_out-waits.ensures.same_borrow))) (c.count_out-waits.ensures.out (all_of (parties_of c.args.waits.now)) (subst (λ p. IsInside (all_of (parties_of c.args.waits.now)) (parties_of p)) (sym c.sleep-slept.ensures.still) c.count_in-counted.ensures.inside))

pub returns-clause-slept : goal.returns-clause-slept
returns-clause-slept g c = subst (λ took. HasSlept g.W.FnMut c.args.word.now.shown c.args.wait c.in-Some.asked (initial_of c.args.self.now.semaphore) took c.args.permits.now c.sleep-slept.new.permits) (sym c.given.ensures) (slept_so _ _ _ _ _ _ _ _ _ _ c.sleep-slept.ensures.slept c.in-Some.is).1

pub returns-clause-may_again : goal.returns-clause-may_again
returns-clause-may_again g c = (slept_so _ _ _ _ _ _ _ _ _ _ c.sleep-slept.ensures.slept c.in-Some.is).0
