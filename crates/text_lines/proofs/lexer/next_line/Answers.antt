use Rattle.text_lines.proofs.Names.{rules}
use Rattle.text_lines.proofs.LexerLaws.{text_cut, text_whole}
use Rattle.text_lines.proofs.lexer.next_line.Goals as goal

pub returns-in-Some-clause-lines : goal.returns-in-Some-clause-lines
returns-in-Some-clause-lines c = text_cut c.args.text.now _ c.in-Some.end c.in-Some.ensures c.without_return.ensures

pub returns-in-None-clause-lines : goal.returns-in-None-clause-lines
returns-in-None-clause-lines c = text_whole c.args.text.now (search rules) c.in-None.ensures
