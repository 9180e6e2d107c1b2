-- What is told of the moves of a question's answer.
use Rattle.std.specs.Prelude.{ℕ, List, true}
use Rattle.explore_client.specs.Run.{AnswersAny}
use Rattle.explore_text.specs.declared.report.Scope.{Scope}
use Rattle.explore_text.specs.declared.report.Verdict.{Verdict}

-- they are those of an answer to the question
abbrev pub AreMovesOf : List ℕ → List ℕ → Type 0
AreMovesOf question moves = (answer : List ℕ) × (verdict : Verdict) × (scope : Scope) × AnswersAny question true answer moves verdict scope
