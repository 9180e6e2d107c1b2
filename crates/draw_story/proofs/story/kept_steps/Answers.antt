use Rattle.draw_story.proofs.Names.{◌∙◌, List, ap, map, string_bytes, Entry, shown_at}
use Rattle.draw_story.proofs.StoryLaws.{keeps, kept_fits}
use Rattle.draw_story.proofs.story.kept_steps.Goals as goal

pub steps_of-requires : goal.steps_of-requires
steps_of-requires g c = kept_fits _ _ c.kept-rows.ensures

pub returns : goal.returns
returns g c =
    c.in_ok-steps.ensures ∙ ap (λ (rows : List (Entry g.row.T.Denot)). map (shown_at (map string_bytes c.args.titles.now)) rows) (keeps c.args.rows.now _ c.kept-rows.ensures)
