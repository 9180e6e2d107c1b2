-- What several files of the proofs read.
pub use Rattle.std.proofs.Common.{◌≡◌, ℕ, Bool, true, false, List, [], Result, IfOk, Vec, Global, subst, take, ◌+◌, ◌∙◌, sym, ap, arith, rules, refl, length}
pub use Rattle.text_lines.specs.declared.value_type.ValueType.{ValueType}
pub use Rattle.draw_text.specs.Picture.{IsPictureOfRows, rows_in, step_titles, IsPicture}
unfoldable pub use Rattle.draw_text.specs.Picture.{IsPictureOf}
pub use Rattle.draw_markup.specs.Group.{titles_of}
pub use Rattle.draw_story.proofs.StoryLaws.{one_more, titles_told, has_output}
pub use Rattle.text_lines.specs.Lexer.{lines_of}
pub use Rattle.draw_text.specs.Parts.{are_told}
