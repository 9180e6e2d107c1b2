use Rattle.running_rw_writer.proofs.AnswerNames.{WaitAction, Pass, Answered, parties_of, spun, ◌∙◌, sym, ap, inr, subst, arith, PlayedRwWriter, ComesToWrite, ComesToGiveUp, stands, goes_on, stands_to_wait, continued, aborted}
use Rattle.running_model.specs.Turns.{action_in}
use Rattle.running_model.proofs.Questions.{still_of, answers_so}
use Rattle.running_rw_writer.proofs.RwLockWriterPreference.ask_once.Goals as goal

pub ask-answer-requires-clause-stands : goal.ask-answer-requires-clause-stands
ask-answer-requires-clause-stands g c = let w = c.requires.at in stands_to_wait _ c.look_last-count.result.0 w.0 _ c.requires.counter.1 (stands c.look_last-count.result.0 c.look_last-count.result.1 (spun 10000) w.0 _ (sym c.is_blocked.ensures ∙ c.if-is_blocked.true) (c.look_last-count.ensures.looked (spun 10000) w.0 w.1))

pub enter_or_mark-entered-requires-clause-at : goal.enter_or_mark-entered-requires-clause-at
enter_or_mark-entered-requires-clause-at g c = let w = c.requires.at in (
  10000,
  w.0,
  (subst (λ (p : Pass PlayedRwWriter). ComesToWrite (Answered WaitAction.Continue) (spun 10000) w.0 (parties_of p)) (sym (still_of _ _ _ c.in-Continue.is c.ask-answer.ensures.still))
      (continued c.look_last-count.result.0 w.0 _ (stands c.look_last-count.result.0 c.look_last-count.result.1 (spun 10000) w.0 _ (sym c.is_blocked.ensures ∙ c.if-is_blocked.true) (c.look_last-count.ensures.looked (spun 10000) w.0 w.1)))),
)

pub enter_or_mark_from-entered-requires-clause-at : goal.enter_or_mark_from-entered-requires-clause-at
enter_or_mark_from-entered-requires-clause-at g c = let w = c.requires.at in (10000, w.0, (goes_on c.look_last-count.result.0 c.look_last-count.result.1 (spun 10000) w.0 (parties_of c.look_last-count.result.2.pass.now) (sym c.is_blocked.ensures ∙ c.if-is_blocked.false) (c.look_last-count.ensures.looked (spun 10000) w.0 w.1)))

pub returns-in-Continue-clause-played : goal.returns-in-Continue-clause-played
returns-in-Continue-clause-played g c = λ done at. c.enter_or_mark-entered.ensures.played 10000 done (subst (λ (p : Pass PlayedRwWriter). ComesToWrite (Answered WaitAction.Continue) (spun 10000) done (parties_of p)) (sym (still_of _ _ _ c.in-Continue.is c.ask-answer.ensures.still))
    (continued c.look_last-count.result.0 done _ (stands c.look_last-count.result.0 c.look_last-count.result.1 (spun 10000) done _ (sym c.is_blocked.ensures ∙ c.if-is_blocked.true) (c.look_last-count.ensures.looked (spun 10000) done at))))

pub returns-in-Abort-clause-stood : goal.returns-in-Abort-clause-stood
returns-in-Abort-clause-stood g c = λ done at. subst (λ (p : Pass PlayedRwWriter). ComesToGiveUp done (parties_of p)) (sym (still_of _ _ _ c.in-Abort.is c.ask-answer.ensures.still))
    (aborted c.look_last-count.result.0 done _ (stands c.look_last-count.result.0 c.look_last-count.result.1 (spun 10000) done _ (sym c.is_blocked.ensures ∙ c.if-is_blocked.true) (c.look_last-count.ensures.looked (spun 10000) done at)))

pub returns-in-Continue-clause-asked : goal.returns-in-Continue-clause-asked
returns-in-Continue-clause-asked g c = inr (c.look_last-count.result.0, omega arith, answers_so _ _ _ _ _ _ _ (ap action_in c.in-Continue.is) c.ask-answer.ensures.asked)

pub returns-in-Abort-clause-aborted : goal.returns-in-Abort-clause-aborted
returns-in-Abort-clause-aborted g c = (c.look_last-count.result.0, omega arith, answers_so _ _ _ _ _ _ _ (ap action_in c.in-Abort.is) c.ask-answer.ensures.asked)

pub returns-clause-played : goal.returns-clause-played
returns-clause-played g c = λ done at. c.enter_or_mark_from-entered.ensures.played 10000 done (goes_on c.look_last-count.result.0 c.look_last-count.result.1 (spun 10000) done (parties_of c.look_last-count.result.2.pass.now) (sym c.is_blocked.ensures ∙ c.if-is_blocked.false) (c.look_last-count.ensures.looked (spun 10000) done at))
