use Rattle.draw_story.proofs.Names.{List, ℕ, Result, ◌∙◌, ap, subst, lines_of, left_out, HasOutput}
use Rattle.text_lines.specs.Fault.{IsFaultOf}
use Rattle.text_lines.specs.declared.fault.FaultyLine.{FaultyLine}
use Rattle.text_room.specs.Walk.{told}
use Rattle.text_trace.specs.Trace.{RowsAndFault}
use Rattle.text_trace.proofs.SeveralLaws.{opens}
use Rattle.draw_story.specs.Story.{HasTold}
use Rattle.std.proofs.lemmas.Result.{err_from_is_err_and}
use Rattle.draw_story.proofs.SeveralLaws.{output_opened}
use Rattle.draw_story.proofs.several.play.Goals as goal

pub returns-in_err-story-clause-fault : goal.returns-in_err-story-clause-fault
returns-in_err-story-clause-fault g c =
    let p = err_from_is_err_and c.from_residual-in_err-story.result c.from_residual-in_err-story.ensures.1 in
    rw (p.1, p.2) (subst (λ (output : Result (List ℕ) FaultyLine). IsFaultOf c.in_err-story.field-0.0 output) (output_opened g.T.AtomicInteger.arithmetic g.T.TextInteger.numerals (lines_of c.args.text.now) (told c.in_ok-group.group c.in_ok-group.rest) c.in_ok-group.ensures.opened) c.in_err-story.ensures.fault)

pub returns-clause-told : goal.returns-clause-told
returns-clause-told g c =
    subst (λ (rows : RowsAndFault g.row.T.Denot). HasTold rows c.in_ok-story.story) (opens g.T.AtomicInteger.arithmetic g.T.TextInteger.numerals (lines_of c.args.text.now) (told c.in_ok-group.group c.in_ok-group.rest) c.in_ok-group.ensures.opened) c.in_ok-story.ensures.story.told

pub returns-clause-opened : goal.returns-clause-opened
returns-clause-opened g c = (told c.in_ok-group.group c.in_ok-group.rest, c.in_ok-group.ensures.opened, c.in_ok-story.ensures.story.opened)

pub returns-clause-left_out : goal.returns-clause-left_out
returns-clause-left_out g c =
    c.in_ok-story.ensures.story.left_out ∙ ap (λ (rows : RowsAndFault g.row.T.Denot). left_out rows.rows) (opens g.T.AtomicInteger.arithmetic g.T.TextInteger.numerals (lines_of c.args.text.now) (told c.in_ok-group.group c.in_ok-group.rest) c.in_ok-group.ensures.opened)

pub returns-clause-last : goal.returns-clause-last
returns-clause-last g c = (told c.in_ok-group.group c.in_ok-group.rest, c.in_ok-group.ensures.opened, c.in_ok-story.ensures.story.last)

pub returns-clause-played : goal.returns-clause-played
returns-clause-played g c =
    subst HasOutput (output_opened g.T.AtomicInteger.arithmetic g.T.TextInteger.numerals (lines_of c.args.text.now) (told c.in_ok-group.group c.in_ok-group.rest) c.in_ok-group.ensures.opened) c.in_ok-story.ensures.story.played
