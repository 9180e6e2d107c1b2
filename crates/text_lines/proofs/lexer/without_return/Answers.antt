use Rattle.text_lines.proofs.Names.{rules, tests}
use Rattle.text_lines.proofs.LexerLaws.{return_cut, return_kept}
use Rattle.text_lines.proofs.lexer.without_return.Goals as goal

pub returns-then-last-eq13 : goal.returns-then-last-eq13
returns-then-last-eq13 c = return_cut c.args.line.now c.in-Some.front.now c.in-Some.last.now (search rules) (search (rules, tests))

pub returns-else-last-eq13 : goal.returns-else-last-eq13
returns-else-last-eq13 c = return_kept c.args.line.now c.in-Some.front.now c.in-Some.last.now (search rules) (search (rules, tests))
