use Rattle.sync_play.proofs.Names.{◌∙◌, ap, ℕ, List, ◌++◌, append_assoc, codes, string_bytes, decimal, answer_words}
use Rattle.sync_play.proofs.PrintLaws.{pushed, printed_after, line_printed}
use Rattle.sync_play.proofs.print.print_then.Goals as goal

pub returns-in_ok-print_number-in-Waits : goal.returns-in_ok-print_number-in-Waits
returns-in_ok-print_number-in-Waits g c = rw c.in-Waits.is (line_printed c.writeln.result c.args.party (codes "waits " ++ decimal c.in-Waits.seen) _ _ _ c.in_ok-print_number-in-Waits.ensures c.writeln.ensures.bytes)

pub returns-in_ok-print-in-Chooses : goal.returns-in_ok-print-in-Chooses
returns-in_ok-print-in-Chooses g c =
    let result = c.push_str-in-Chooses.result in
    let value = g.T.TextInteger.numerals.decimal_of c.in-Chooses.old in
    rw c.in-Chooses.is (line_printed result c.args.party (codes "chooses " ++ value) _ _ _ c.in_ok-print_number-in-Chooses.ensures
    (printed_after result (codes "chooses " ++ value) (codes "\n") _ _ _ (c.in_ok-print-in-Chooses.ensures ∙ ap (λ (l : List ℕ). l ++ value) c.in_ok-push_str-in-Chooses.ensures.bytes ∙ append_assoc _ (codes "chooses ") value) (pushed _ (string_bytes c.print.new.out) (codes "\n") _ c.push_str-in-Chooses.ensures.bytes)))

pub returns-in_ok-print_answer-in-Answers : goal.returns-in_ok-print_answer-in-Answers
returns-in_ok-print_answer-in-Answers g c =
    let result = c.push_str-in-Answers.result in
    let words = answer_words g.T.TextInteger.numerals c.in-Answers.answer in
    rw c.in-Answers.is (line_printed result c.args.party words _ _ _ c.in_ok-print_number-in-Answers.ensures
    (printed_after result words (codes "\n") _ _ _ c.in_ok-print_answer-in-Answers.ensures (pushed _ (string_bytes c.print_answer.new.out) (codes "\n") _ c.push_str-in-Answers.ensures.bytes)))
