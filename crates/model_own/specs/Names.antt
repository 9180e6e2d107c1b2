-- What this crate reads of others, and its own types.
pub use Rattle.model_events.specs.Exports.{Arithmetic, Table, IsPast, Hold, PendingCall, call_of, hold_among, without, stage_of, is_step, value_told, refused, answered, within, same_word, IsExclusive}
pub use Rattle.model_events.specs.declared.{WaitAction.WaitAction, event.Act.Act, event.Answer.Answer, event.Call.Call, event.Event.Event, event.Word.Word, hold.HoldKind.HoldKind, row.After.After, row.Intent.Intent}
pub use Rattle.model_own.specs.declared.{Number.Number, Test.Test, Operation.Operation, HoldChange.HoldChange, Next.Next, Way.Way, Row.Row, Role.Role, OwnPlace.OwnPlace, Entry.Entry}
