-- What this crate reads of others.
pub use Rattle.std.specs.Fmt.{decimal}
pub use Rattle.std.specs.List.{flat_map, take-map}
pub use Rattle.std.specs.Prelude.{string_bytes, replicate, codes}
pub use Rattle.std.specs.Str.{bytes_eq}
pub use Rattle.model_events.specs.Exports.{Arithmetic, hold_of, hold_among, call_of, holds_of, PendingCall, Hold, word_after, is_release, hold_taken, with_hold, without, after}
pub use Rattle.model_events.specs.declared.{WaitAction.WaitAction, event.Act.Act, event.Event.Event, event.Object.Object, event.Wake.Wake, event.Word.Word, hold.HoldKind.HoldKind}
pub use Rattle.text_lines.specs.Lexer.{lines_of}
pub use Rattle.text_lines.specs.Numerals.{Numerals}
pub use Rattle.text_lines.specs.declared.fault.FaultyLine.{FaultyLine}
pub use Rattle.text_lines.specs.declared.header.Header.{Header}
pub use Rattle.sync_play.specs.Print.{answer_words, further_words}
pub use Rattle.sync_play.specs.Walk.{Walk, opened, after_times, steps_then, nothing, rest_walk, IsNextStride, most_steps}
unfoldable pub use Rattle.sync_play.specs.Walk.{lines_walk, go_walk}
pub use Rattle.sync_play.specs.WalkOutput.{events_in}
pub use Rattle.sync_play.specs.declared.walk.Step.{Step}
pub use Rattle.sync_steps.specs.Machine.{Configuration, StandsAt}
pub use Rattle.sync_steps.specs.Machine.Strides.{is_quiet, IsQuiet}
pub use Rattle.sync_steps.specs.Objects.{table_of}
pub use Rattle.sync_steps.specs.Runs.{word_in}
