-- What several files of the proofs read.
pub use Rattle.std.proofs.Common.{◌≡◌, ℕ, zero, suc, ◌+◌, ◌-◌, ◌<◌, ◌≤◌, min, Result, List, [], ◌∷◌, ◌++◌, length, get_or, map, take, Option, Some, None, Ok, Err, refl, sym, ap, subst, ◌∙◌, arith, IfOk}
pub use Rattle.std.proofs.lemmas.List.{take_more, map-append, length-take, length-take-le, length-append, take_all}
pub use Rattle.std.specs.Prelude.{string_bytes}
pub use Rattle.text_lines.specs.Lexer.{lines_of}
pub use Rattle.sync_play.proofs.PlayLaws.{text_walk, opens_none}
pub use Rattle.text_trace.specs.declared.rows.Row.{Row}
pub use Rattle.text_trace.specs.Rows.{Entry, entry_of, entries, trimmed}
pub use Rattle.draw_story.specs.Story.{Shown, shown_of, shown_at, kept, number_at_end, left_out, HasOutput}
