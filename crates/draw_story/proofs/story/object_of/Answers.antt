use Rattle.draw_story.proofs.Names.{refl}
use Rattle.draw_story.proofs.story.object_of.Goals as goal

pub returns : goal.returns
returns g c o parties stands = rw (c.in_ok-from_str.ensures.ok, c.object.ensures o parties _ stands, c.words_of.ensures o parties _ stands) refl
