use Rattle.running_rw_hold.proofs.Names.{◌≡◌, true, ◌∙◌, sym, ap, subst, MatchBool-at_true, HoldKind, is_holding, parties_of, all_of, still_so, asked_after, holding_is}
use Rattle.running_passes.specs.Answers.{HasAsked}
use Rattle.running_rw_hold.proofs.reading.wait_to_read.Goals as goal

pub returns-in-Ok-clause-has : goal.returns-in-Ok-clause-has
returns-in-Ok-clause-has g c = λ _. subst (λ q. is_holding (g.M.Script.model tt).table HoldKind.Read (parties_of q) ≡ true) (sym (c.pass-1.given.1 (sym c.in-Ok.ensures.same_borrow ∙ sym c.end-pass.ensures.same_borrow) ∙ c.end-pass.ensures.still)) (holding_is (g.M.Script.model tt) HoldKind.Read _ _ c.in-Ok.ensures.granted.rests)

pub returns-in-Err-clause-has : goal.returns-in-Err-clause-has
returns-in-Err-clause-has g c = λ done. subst (λ q. is_holding (g.M.Script.model tt).table HoldKind.Read (parties_of q) ≡ true) (sym (c.pass-in-Err-1.given.1 (sym c.in-Err.ensures.same_borrow_too ∙ sym c.read_later-entered.ensures.same_borrow ∙ sym c.end-pass-in-Err.ensures.same_borrow) ∙ c.end-pass-in-Err.ensures.still)) (holding_is (g.M.Script.model tt) HoldKind.Read _ _ (MatchBool-at_true _ _ done (c.read_later-entered.ensures.over (all_of (parties_of c.args.pass.now)) c.in-Err.ensures.goes_on)).rests)

pub returns-in-Err-clause-asked : goal.returns-in-Err-clause-asked
returns-in-Err-clause-asked g c = λ only no. subst (λ q. HasAsked g.W.Fn c.args.wait g.L.ReadSteps.refuses 10001 c.args.pass.now q) (sym (c.pass-in-Err-1.given.1 (sym c.in-Err.ensures.same_borrow_too ∙ sym c.read_later-entered.ensures.same_borrow ∙ sym c.end-pass-in-Err.ensures.same_borrow) ∙ c.end-pass-in-Err.ensures.still))
    (asked_after _ _ _ 1 10000 c.args.pass.now c.in-Err.next.pass.now c.read_later-entered.result.1.pass.now (c.in-Err.ensures.looked.once only) (c.read_later-entered.ensures.asked (λ _. c.in-Err.ensures.looked.says only ∙ sym (ap g.L.ReadSteps.word_of c.in-Err.ensures.looked.stayed.counts)) (still_so g.L.ReadSteps.only c.args.pass.now c.in-Err.next.pass.now c.in-Err.ensures.looked.stayed only) no))
