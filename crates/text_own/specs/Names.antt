-- What this crate reads of others.
pub use Rattle.std.specs.Str.{bytes_eq}
pub use Rattle.text_lines.specs.Fault.{◌>>=◌, at_line}
pub use Rattle.text_lines.specs.Lexer.{lines_of, words_of, number_within, nothing}
pub use Rattle.text_lines.specs.Several.{place_of, may_name}
pub use Rattle.text_lines.specs.declared.fault.{LineFault.LineFault, FaultyLine.FaultyLine}
pub use Rattle.model_events.specs.declared.{event.Wake.Wake, event.Word.Word, event.Call.Call, hold.HoldKind.HoldKind}
pub use Rattle.model_own.specs.declared.{Number.Number, Test.Test, Operation.Operation, HoldChange.HoldChange, Next.Next, Way.Way, Row.Row, Role.Role, Entry.Entry}
