use Rattle.running_rw_writer.proofs.AnswerNames.{Call, Answer, HoldKind, Pass, parties_of, rw_writer_model, Some, ◌∙◌, sym, subst, MatchBool-at_true, MatchBool-at_false, is_over, PlayedRwWriter, WriteIsGranted, fewest, tried_again, true, inl, refl, asked_on, asked_last}
use Rattle.running_rw_writer.proofs.RwLockWriterPreference.ask_to_write.Goals as goal

pub end-requires-clause-over : goal.end-requires-clause-over
end-requires-clause-over g c = let w = c.requires.at in is_over rw_writer_model Call.WriteLock Answer.Success (Some HoldKind.Write) w.0 _ (MatchBool-at_true _ _ c.if-entered.true (c.in-Ok.ensures.played w.0 (c.loop.invariant.at w.0 w.1)))

pub enter_or_give_up-entered-requires-clause-at : goal.enter_or_give_up-entered-requires-clause-at
enter_or_give_up-entered-requires-clause-at g c = let w = c.requires.at in (w.0, c.in-Err.ensures.stood w.0 (c.loop.invariant.at w.0 w.1))

pub returns-then-entered-clause-played : goal.returns-then-entered-clause-played
returns-then-entered-clause-played g c = λ done at. subst (λ (q : Pass PlayedRwWriter). WriteIsGranted done (parties_of q)) (sym c.end.ensures.still) (MatchBool-at_true _ _ c.if-entered.true (c.in-Ok.ensures.played done (c.loop.invariant.at done at)))

pub returns-in-Err-clause-played : goal.returns-in-Err-clause-played
returns-in-Err-clause-played g c = λ done at. c.enter_or_give_up-entered.ensures.played done (c.in-Err.ensures.stood done (c.loop.invariant.at done at))

pub returns-then-entered-clause-asked : goal.returns-then-entered-clause-asked
returns-then-entered-clause-asked g c = c.loop.invariant.asked _ true (asked_on _ _ _ _ _ _ c.in-Ok.ensures.asked (inl (refl, refl)))

pub returns-in-Err-clause-asked : goal.returns-in-Err-clause-asked
returns-in-Err-clause-asked g c = c.loop.invariant.asked _ _ (asked_last _ _ _ _ _ c.in-Err.ensures.aborted)

pub loop-preserved : goal.loop-preserved
loop-preserved g c = record {
  same_borrow = c.in-Ok.ensures.same_borrow ∙ c.loop.invariant.same_borrow;
  tried = fewest _ _ _ (tried_again 0 1 _ _ _ c.loop.invariant.tried (MatchBool-at_false _ _ c.if-entered.false c.in-Ok.ensures.entered));
  may = c.in-Ok.ensures.may_again;
  asked = λ after entered rest. c.loop.invariant.asked after entered (asked_on _ _ _ _ _ _ c.in-Ok.ensures.asked rest);
  at = λ done at. MatchBool-at_false _ _ c.if-entered.false (c.in-Ok.ensures.played done (c.loop.invariant.at done at));
}
