-- The lemmas of others that this crate cites.
pub use Rattle.std.proofs.Common.{◌≡◌, ◌∙◌, ap, ℕ, List, ◌++◌, Result, Ok, Err, OnOk, IfOk, append_assoc, zero, suc, ◌+◌, Bool, true, false, cond, ◌∷◌, Option, refl, ◌-◌, ◌^◌, ◌<◌, ◌≤◌, ◌==◌, ◌&&◌, min, max, drop, map, sym, subst, [], length, take, get_or, Some, None, arith, IfSome, rules, Vec, Global, String, slice_get, is_some}
pub use Rattle.std.proofs.lemmas.List.{at_drop_more, drop_all, take_more, map-append, append-nil, length-map, length-append, take_all}
pub use Rattle.std.specs.Borrow.{Bor}
pub use Rattle.std.proofs.lemmas.Bool.Decides.{nat_tests}
pub use Rattle.std.proofs.lemmas.Bool.{eqb-false, eqb-true}
pub use Rattle.text_trace.specs.Names.{decimal, Event, Object, Word, Arithmetic, word_in, further_words, Numerals, Act, HoldKind, PendingCall, Hold, hold_of, table_of, hold_among, call_of, holds_of, word_after, is_release, hold_taken, with_hold, without, is_quiet, Header, Step, after_times, take-map, bytes_eq, replicate, codes, after, Configuration, StandsAt, IsQuiet, lines_of, FaultyLine, events_in, Walk, steps_then, nothing, lines_walk, opened, rest_walk, IsNextStride, most_steps, string_bytes}
unfoldable pub use Rattle.text_trace.specs.Names.{go_walk}
pub use Rattle.text_trace.specs.Cells.{words_text, Texts, act_words, standing_words, with_holder, holders, or_dash, cells_at, texts_of}
pub use Rattle.text_trace.specs.Each.{for_each}
pub use Rattle.text_trace.specs.declared.rows.Row.{Row}
pub use Rattle.text_trace.specs.Rows.{Entry, entry_of, entries, texts_same, read_same, number_after, alone, longer, joined, added, added_often, folded, trimmed, trimmed_to}
pub use Rattle.text_trace.specs.Table.{text_at, widest, word_widths, word_cells, cell, columns_of, head, widened, widened_by, widths_of, row_line, row_lines, titles}
unfoldable pub use Rattle.text_trace.specs.Table.{line_text, table}
