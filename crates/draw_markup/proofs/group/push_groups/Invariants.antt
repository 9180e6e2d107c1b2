use Rattle.draw_markup.proofs.Names.{ℕ, ◌++◌, List, take, string_bytes, titles_of, IsMarkup}
use Rattle.draw_markup.proofs.group.push_groups.Given as goal

abbrev pub invariant-loop-group : goal.invariant-loop-group
invariant-loop-group l =
    (titles : List (List ℕ)) → ∥ IsMarkup titles (string_bytes l.initial.bytes) ∥₁ → ∥ IsMarkup (titles ++ titles_of (take l.group-index l.groups)) (string_bytes l.bytes) ∥₁
