use Rattle.draw_text.proofs.Names.{subst, ℕ, List, IsPicture, titles_told}
use Rattle.draw_text.proofs.picture.draw_several.Goals as goal

pub returns-clause-drawn : goal.returns-clause-drawn
returns-clause-drawn g c = subst (λ (titles : List (List ℕ)). IsPicture titles c.in_ok-picture.picture.items) (titles_told _ _ _ c.in_ok-story.ensures.told) c.in_ok-picture.ensures
