use Rattle.draw_text.proofs.Names.{◌≡◌, ◌+◌, ◌∙◌, sym, ap, subst, List, take, arith, titles_of, step_titles, one_more}
use Rattle.std.proofs.lemmas.List.{take_all}
use Rattle.std.specs.Prelude.{string_bytes}
use Rattle.draw_markup.specs.declared.group.Group.{Group}
use Rattle.draw_story.specs.declared.story.StoryStep.{StoryStep}
use Rattle.draw_text.proofs.picture.draw_steps.Goals as goal

pub loop-step-preserved : goal.loop-step-preserved
loop-step-preserved g c =
    let same = c.deref-step-items.ensures.value in
    let i = c.loop-step.step-index in
    subst (λ (l : List (StoryStep g.row.T.Denot)). titles_of c.push.new.self.items ≡ step_titles (take (i + 1) l)) same
    (one_more (λ (group : Group). group.title.now) (λ (step : StoryStep g.row.T.Denot). string_bytes step.title) c.loop-step.groups.items c.push.new.self.items c.deref-step-items.result.now i c.in_ok-group.group c.step-item.result
    c.loop-step-test.true c.step-item.is (c.loop-step.invariant ∙ ap (λ (l : List (StoryStep g.row.T.Denot)). step_titles (take i l)) (sym same)) c.in_ok-push.ensures.items c.in_ok-group.ensures)

pub returns : goal.returns
returns g c =
    c.loop-step.invariant ∙ ap (λ (l : List (StoryStep g.row.T.Denot)). step_titles l) (take_all c.loop-step.step-index c.args.story.now.steps.items (omega (arith, c.loop-step-test.false)))
