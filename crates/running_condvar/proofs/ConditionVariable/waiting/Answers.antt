use Rattle.running_condvar.proofs.Names.{IsWhole, part_of, Call, Answer, parties_of, counts_of, ◌≡◌, sym, subst, ◌∙◌, HasSeen, WaitsPass, Plays}
use Rattle.running_condvar.proofs.CondKeeps.{loads, none_there}
use Rattle.running_condvar.proofs.CondPlays.{may_look, tells, look_is_over}
use Rattle.running_condvar.proofs.ConditionVariable.waiting.Goals as goal

pub end-waits-requires-clause-over : goal.end-waits-requires-clause-over
end-waits-requires-clause-over g c = look_is_over c.load-waiting.result.0 (parties_of c.begin_new-begun.result.pass.now) _ (tells _ _ _ c.load-waiting.ensures.stepped.went)

pub returns-clause-saw : goal.returns-clause-saw
returns-clause-saw g c =
    let met : HasSeen c.load-waiting.result.0 c.begin_new-begun.result.pass.now c.load-waiting.result.1.pass.now = (c.load-waiting.ensures.same, loads _ _ _ _ _ (may_look _) c.load-waiting.ensures.stepped.acted.told) in
    subst (λ q. HasSeen c.load-waiting.result.0 c.args.waits.now q) (sym (c.waits-1.given.1 (sym c.begin_new-begun.ensures.same_borrow ∙ sym c.load-waiting.ensures.same_borrow ∙ sym c.end-waits.ensures.same_borrow) ∙ c.end-waits.ensures.still))
    (subst (λ p. HasSeen c.load-waiting.result.0 p c.load-waiting.result.1.pass.now) c.begin_new-begun.ensures.still met)

pub returns-clause-played : goal.returns-clause-played
returns-clause-played g c =
    let met : Plays Call.Value (Answer.Number c.load-waiting.result.0) (parties_of c.begin_new-begun.result.pass.now) (parties_of c.load-waiting.result.1.pass.now) = tells _ _ _ c.load-waiting.ensures.stepped.went in
    subst (λ q. Plays Call.Value (Answer.Number c.load-waiting.result.0) (parties_of c.args.waits.now) (parties_of q)) (sym (c.waits-1.given.1 (sym c.begin_new-begun.ensures.same_borrow ∙ sym c.load-waiting.ensures.same_borrow ∙ sym c.end-waits.ensures.same_borrow) ∙ c.end-waits.ensures.still))
    (subst (λ p. Plays Call.Value (Answer.Number c.load-waiting.result.0) (parties_of p) (parties_of c.load-waiting.result.1.pass.now)) c.begin_new-begun.ensures.still met)

pub returns-clause-none : goal.returns-clause-none
returns-clause-none g c = subst (λ (p : WaitsPass). IsWhole (part_of p) → (counts_of p).ended ≡ (counts_of p).begun → c.load-waiting.result.0 ≡ 0) c.begin_new-begun.ensures.still
    (none_there _ c.begin_new-begun.result.pass.now _ (may_look _) c.load-waiting.ensures.stepped.acted.share)
