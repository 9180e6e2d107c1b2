use Rattle.running_model.proofs.Names.{WaitAction, answered, part_of, sights_of, ◌≡◌, ◌+◌, refl, ◌∙◌, sym, ap, subst, false≢true, arith, spun, IsStanding, parties_of, counts_of, HasMoved, WasRefusedAt}
use Rattle.running_model.proofs.Attempts.{still_so, seen_none, seen_twice, moved_later, refused_by, refused_later}
use Rattle.running_model.proofs.Patience.{tries_on}
use Rattle.running_model.proofs.Questions.{one, more, still_of, same_of}
use Rattle.running_model.specs.Turns.{action_in}
use Rattle.running_model.proofs.tries.ask_and_try.Goals as goal

pub loop-init : goal.loop-init
loop-init g c = record {
  same_borrow = refl;
  own = c.requires.own;
  stayed = seen_none c.args.turn.pass.now;
  refused = c.requires.refused;
  may = c.requires.may;
  asked = λ _ _ _ a. a;
  at = λ _ stood. stood;
}

pub ask-answer-requires-clause-stands : goal.ask-answer-requires-clause-stands
ask-answer-requires-clause-stands g c =
    record {
      call = g.B.Attempt.call;
      place = g.B.Attempt.place (spun 10000);
      hold = _;
      done = c.requires.at.0;
      at = c.loop.invariant.at c.requires.at.0 c.requires.at.1;
      word = c.requires.handed (spun 10000);
    }

pub attempt-requires-clause-comes : goal.attempt-requires-clause-comes
attempt-requires-clause-comes g c =
    record {
      patience = answered (spun 10000) WaitAction.Continue;
      done = c.requires.at.0;
      comes = tries_on _ _ _ (g.met.B.Attempt.answers _) WaitAction.Continue c.loop.last _ _ (subst (λ q. IsStanding (g.M.Script.model (g.B.Attempt.key c.args.by.now)) g.B.Attempt.call g.B.Attempt.place c.loop.last c.requires.at.0 (parties_of q)) (sym (still_of _ _ _ c.in-Continue.is c.ask-answer.ensures.still)) (c.loop.invariant.at c.requires.at.0 c.requires.at.1));
    }

pub attempt-requires-in-Abort-clause-comes : goal.attempt-requires-in-Abort-clause-comes
attempt-requires-in-Abort-clause-comes g c =
    record {
      patience = answered (spun 10000) WaitAction.Abort;
      done = c.requires.at.0;
      comes = tries_on _ _ _ (g.met.B.Attempt.answers _) WaitAction.Abort c.loop.last _ _ (subst (λ q. IsStanding (g.M.Script.model (g.B.Attempt.key c.args.by.now)) g.B.Attempt.call g.B.Attempt.place c.loop.last c.requires.at.0 (parties_of q)) (sym (still_of _ _ _ c.in-Abort.is c.ask-answer.ensures.still)) (c.loop.invariant.at c.requires.at.0 c.requires.at.1));
    }

pub returns-in-Ok-clause-told : goal.returns-in-Ok-clause-told
returns-in-Ok-clause-told g c = moved_later g.B.Attempt.moves c.args.turn.pass.now c.loop.next.pass.now c.in-Ok.granted.pass.now c.loop.invariant.stayed (subst (λ q. HasMoved g.B.Attempt.moves q c.in-Ok.granted.pass.now) (still_of _ _ _ c.in-Continue.is c.ask-answer.ensures.still) c.in-Ok.ensures.moved)

pub returns-in-Ok-clause-over : goal.returns-in-Ok-clause-over
returns-in-Ok-clause-over g c =
    λ done stood. c.in-Ok.ensures.granted (answered (spun 10000) WaitAction.Continue) done (tries_on _ _ _ (g.met.B.Attempt.answers _) WaitAction.Continue c.loop.last _ _ (subst (λ q. IsStanding (g.M.Script.model (g.B.Attempt.key c.args.by.now)) g.B.Attempt.call g.B.Attempt.place c.loop.last done (parties_of q)) (sym (still_of _ _ _ c.in-Continue.is c.ask-answer.ensures.still)) (c.loop.invariant.at done stood)))

pub returns-in-Ok-attempt-clause-told : goal.returns-in-Ok-attempt-clause-told
returns-in-Ok-attempt-clause-told g c = moved_later g.B.Attempt.moves c.args.turn.pass.now c.loop.next.pass.now c.in-Ok-attempt.granted.pass.now c.loop.invariant.stayed (subst (λ q. HasMoved g.B.Attempt.moves q c.in-Ok-attempt.granted.pass.now) (still_of _ _ _ c.in-Abort.is c.ask-answer.ensures.still) c.in-Ok-attempt.ensures.moved)

pub returns-in-Ok-attempt-clause-over : goal.returns-in-Ok-attempt-clause-over
returns-in-Ok-attempt-clause-over g c =
    λ done stood. c.in-Ok-attempt.ensures.granted (answered (spun 10000) WaitAction.Abort) done (tries_on _ _ _ (g.met.B.Attempt.answers _) WaitAction.Abort c.loop.last _ _ (subst (λ q. IsStanding (g.M.Script.model (g.B.Attempt.key c.args.by.now)) g.B.Attempt.call g.B.Attempt.place c.loop.last done (parties_of q)) (sym (still_of _ _ _ c.in-Abort.is c.ask-answer.ensures.still)) (c.loop.invariant.at done stood)))

pub returns-in-Err-attempt-clause-told : goal.returns-in-Err-attempt-clause-told
returns-in-Err-attempt-clause-told g c =
    refused_later g.B.Attempt.refuses 0 c.args.turn.pass.now c.loop.next.pass.now c.in-Err-attempt.refused.pass.now c.loop.invariant.stayed (omega (arith, c.loop.invariant.stayed.saw.more))
    (refused_by g.B.Attempt.refuses 1 c.in-Err-attempt.field-0-0 c.loop.next.pass.now c.in-Err-attempt.refused.pass.now (subst (λ q. WasRefusedAt g.B.Attempt.refuses c.in-Err-attempt.field-0-0 1 q c.in-Err-attempt.refused.pass.now) (still_of _ _ _ c.in-Abort.is c.ask-answer.ensures.still) c.in-Err-attempt.ensures.refused))

pub returns-in-Err-attempt-clause-over : goal.returns-in-Err-attempt-clause-over
returns-in-Err-attempt-clause-over g c =
    λ done stood. c.in-Err-attempt.ensures.failed (answered (spun 10000) WaitAction.Abort) done (tries_on _ _ _ (g.met.B.Attempt.answers _) WaitAction.Abort c.loop.last _ _ (subst (λ q. IsStanding (g.M.Script.model (g.B.Attempt.key c.args.by.now)) g.B.Attempt.call g.B.Attempt.place c.loop.last done (parties_of q)) (sym (still_of _ _ _ c.in-Abort.is c.ask-answer.ensures.still)) (c.loop.invariant.at done stood)))

pub returns-in-Ok-clause-asked : goal.returns-in-Ok-clause-asked
returns-in-Ok-clause-asked g c = c.loop.invariant.asked _ _ _ (one _ _ _ _ _ _ _ _ _ _ _ (λ e. absurd (false≢true (sym e))) (λ e. absurd (false≢true (sym e))) c.ask-answer.ensures.asked)

pub returns-in-Ok-attempt-clause-asked : goal.returns-in-Ok-attempt-clause-asked
returns-in-Ok-attempt-clause-asked g c = c.loop.invariant.asked _ _ _ (one _ _ _ _ _ _ _ _ _ _ _ (λ e. absurd (false≢true (sym e))) (λ e. absurd (false≢true (sym e))) c.ask-answer.ensures.asked)

pub returns-in-Err-attempt-clause-asked : goal.returns-in-Err-attempt-clause-asked
returns-in-Err-attempt-clause-asked g c = c.loop.invariant.asked _ _ _ (one _ _ _ _ _ _ _ _ _ _ _ (λ _. ap action_in c.in-Abort.is) (λ _ looks_once. subst (λ q. g.B.Attempt.looks_once (part_of q) (counts_of q) → (sights_of c.in-Err-attempt.refused.pass.now).count ≡ (sights_of q).count + 1) (still_of _ _ _ c.in-Abort.is c.ask-answer.ensures.still) c.in-Err-attempt.ensures.once (still_so g.B.Attempt.looks_once c.args.turn.pass.now c.loop.next.pass.now c.loop.invariant.stayed looks_once)) c.ask-answer.ensures.asked)

pub loop-preserved : goal.loop-preserved
loop-preserved g c =
    let refused = subst (λ q. WasRefusedAt g.B.Attempt.refuses c.in-Err.found 1 q c.in-Err.again.pass.now) (still_of _ _ _ c.in-Continue.is c.ask-answer.ensures.still) c.in-Err.ensures.refused in record {
      same_borrow = c.in-Err.ensures.same_borrow_too ∙ (same_of _ _ _ c.in-Continue.is c.ask-answer.ensures.same_borrow) ∙ c.loop.invariant.same_borrow;
      own = refused.stayed.same.0 ∙ c.loop.invariant.own;
      stayed = seen_twice c.args.turn.pass.now c.loop.next.pass.now c.in-Err.again.pass.now c.loop.invariant.stayed refused.stayed;
      refused = refused.looked.refusing.1;
      may = c.ask-answer.ensures.may_again;
      asked = λ after granted now r. c.loop.invariant.asked after granted now (more _ _ _ _ _ _ _ _ _ _ _ _ _ _ (ap action_in c.in-Continue.is) refused.looked.refusing.1 (λ looks_once. subst (λ q. g.B.Attempt.looks_once (part_of q) (counts_of q) → (sights_of c.in-Err.again.pass.now).count ≡ (sights_of q).count + 1) (still_of _ _ _ c.in-Continue.is c.ask-answer.ensures.still) c.in-Err.ensures.once (still_so g.B.Attempt.looks_once c.args.turn.pass.now c.loop.next.pass.now c.loop.invariant.stayed looks_once)) c.ask-answer.ensures.asked r);
      at = λ done stood. c.in-Err.ensures.failed (answered (spun 10000) WaitAction.Continue) done (tries_on _ _ _ (g.met.B.Attempt.answers _) WaitAction.Continue c.loop.last _ _ (subst (λ q. IsStanding (g.M.Script.model (g.B.Attempt.key c.args.by.now)) g.B.Attempt.call g.B.Attempt.place c.loop.last done (parties_of q)) (sym (still_of _ _ _ c.in-Continue.is c.ask-answer.ensures.still)) (c.loop.invariant.at done stood)));
    }
