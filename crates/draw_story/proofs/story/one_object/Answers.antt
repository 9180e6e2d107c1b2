use Rattle.draw_story.proofs.Names.{[], ◌∷◌, ap}
use Rattle.draw_story.specs.Story.{ShownObject}
use Rattle.draw_story.proofs.story.one_object.Goals as goal

pub returns : goal.returns
returns g c o parties stands =
    rw (c.in_ok-push.ensures.items, c.new-objects.ensures.items) (ap (λ (shown : ShownObject g.row.T.Denot). shown ∷ []) (c.in_ok-object_of.ensures o parties stands))
