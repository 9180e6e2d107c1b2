-- What several files of the proofs read.
pub use Rattle.std.proofs.Common.{◌≡◌, ◌+◌, ◌<◌, ◌≤◌, ℕ, Bool, true, false, if◌then◌else◌, List, [], ◌∷◌, ◌++◌, length, take, get_or, refl, sym, ap, subst, ◌∙◌, append_assoc, arith}
pub use Rattle.std.proofs.lemmas.List.{append-nil, take_all, take_more, map-append, map-id}
pub use Rattle.std.proofs.lemmas.Str.{encode_ascii, encodes-chars}
pub use Rattle.std.specs.Prelude.{codes, string_bytes}
pub use Rattle.std.specs.List.{flat_map}
pub use Rattle.draw_markup.specs.Group.{titles_of}
pub use Rattle.draw_markup.specs.Tree.{shown, tag_words, key_words, Attribute, Tree, Nothing, Character, Element, Group, attribute_bytes, opening_bytes, closing_bytes, written, group_titles, IsWords, IsOpening, IsMarkup, IsElement}
