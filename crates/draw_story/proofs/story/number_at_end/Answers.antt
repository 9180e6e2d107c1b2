use Rattle.draw_story.proofs.StoryLaws.{ends_at, ends_nowhere}
use Rattle.draw_story.proofs.story.number_at_end.Goals as goal

pub returns-in-Some : goal.returns-in-Some
returns-in-Some g c = ends_at c.args.rows.now _ _ c.in-Some.ensures.cases.0

pub returns-in-None : goal.returns-in-None
returns-in-None g c = ends_nowhere c.args.rows.now c.in-None.ensures.cases
