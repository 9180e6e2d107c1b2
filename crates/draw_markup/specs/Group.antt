-- The titles of groups.
use Rattle.std.specs.Prelude.{ℕ, List, map}
use Rattle.draw_markup.specs.declared.group.Group.{Group}

-- in order
abbrev pub titles_of : List Group → List (List ℕ)
titles_of groups = map (λ group. group.title.now) groups
