use Rattle.running_model.proofs.Names.{◌∙◌, refl, sights_of, inl, inr}
use Rattle.running_model.proofs.Attempts.{still_so, told_later}
use Rattle.running_model.proofs.Questions.{alike}
use Rattle.running_model.proofs.tries.try_again_by.Goals as goal

pub ask_and_try-requires-clause-own : goal.ask_and_try-requires-clause-own
ask_and_try-requires-clause-own g c = c.in-Err.ensures.refused.stayed.same.0 ∙ c.requires.own

pub ask_and_try-requires-clause-refused : goal.ask_and_try-requires-clause-refused
ask_and_try-requires-clause-refused g c = c.in-Err.ensures.refused.looked.refusing.1

pub ask_and_try-requires-clause-at : goal.ask_and_try-requires-clause-at
ask_and_try-requires-clause-at g c = (c.requires.at.0, c.in-Err.ensures.stands c.requires.at.0 c.requires.at.1)

pub returns-in-Err-clause-told : goal.returns-in-Err-clause-told
returns-in-Err-clause-told g c =
    told_later g.B.Attempt.moves g.B.Attempt.refuses 10000 c.args.turn.pass.now c.in-Err.next.pass.now c.ask_and_try.result.1.pass.now c.ask_and_try.result.0
    c.in-Err.ensures.refused.stayed c.in-Err.ensures.refused.looked.more c.ask_and_try.ensures.told

pub returns-in-Ok-clause-asked : goal.returns-in-Ok-clause-asked
returns-in-Ok-clause-asked g c = inl (refl, refl)

pub returns-in-Err-clause-asked : goal.returns-in-Err-clause-asked
returns-in-Err-clause-asked g c = inr (
  c.in-Err.last,
  (sights_of c.in-Err.next.pass.now).count,
  c.in-Err.ensures.refused.looked.refusing.1,
  c.in-Err.ensures.once,
  alike _ _ _ _ _ _ _ _ _ (still_so g.B.Attempt.looks_once c.args.turn.pass.now c.in-Err.next.pass.now c.in-Err.ensures.refused.stayed) c.ask_and_try.ensures.asked,
)

pub returns-in-Err-clause-over : goal.returns-in-Err-clause-over
returns-in-Err-clause-over g c = λ done refused. c.ask_and_try.ensures.over done (c.in-Err.ensures.stands done refused)
