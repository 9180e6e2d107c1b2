use Rattle.running_model.proofs.Questions.{answers_so}
use Rattle.running_model.proofs.seat.SeatTurn+S+Played+M+P+V+C+Goes.ask.Goals as goal

pub returns-in-Continue-clause-asked : goal.returns-in-Continue-clause-asked
returns-in-Continue-clause-asked g c = answers_so _ _ _ _ _ _ _ c.in-Continue.is c.answer-action.ensures.asked

pub returns-in-Abort-clause-asked : goal.returns-in-Abort-clause-asked
returns-in-Abort-clause-asked g c = answers_so _ _ _ _ _ _ _ c.in-Abort.is c.answer-action.ensures.asked
