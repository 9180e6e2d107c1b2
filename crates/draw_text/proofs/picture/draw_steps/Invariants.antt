use Rattle.draw_text.proofs.Names.{◌≡◌, take, titles_of, step_titles}
use Rattle.draw_text.proofs.picture.draw_steps.Given as goal

abbrev pub invariant-loop-step : goal.invariant-loop-step
invariant-loop-step g l = titles_of l.groups.items ≡ step_titles (take l.step-index l.story.steps.items)
