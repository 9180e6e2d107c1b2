use Rattle.text_lines.proofs.LexerLaws.{rest_is, word_and_rest, word_alone, no_word}
use Rattle.text_lines.proofs.lexer.next_word.Goals as goal

pub returns-in_err-start : goal.returns-in_err-start
returns-in_err-start c = rw c.from_residual.ensures (no_word c.args.line.now c.in_err-start.ensures)

pub returns-in-Some : goal.returns-in-Some
returns-in-Some c = word_and_rest c.args.line.now _ c.in_ok-start.start c.in-Some.end (rest_is c.args.line.now c.in_ok-start.start) c.in_ok-start.ensures c.in-Some.ensures

pub returns-in-None : goal.returns-in-None
returns-in-None c = word_alone c.args.line.now _ c.in_ok-start.start (rest_is c.args.line.now c.in_ok-start.start) c.in_ok-start.ensures c.in-None.ensures
