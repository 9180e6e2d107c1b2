-- What this crate reads of others.
pub use Rattle.model_events.specs.Exports.{event, carried_out, value_told, outcome_of, same_word, word_at, goes_on}
pub use Rattle.model_events.specs.declared.{WaitAction.WaitAction, event.Act.Act, event.Call.Call, event.Event.Event, event.Input.Input, event.StepFault.StepFault, event.Then.Then, event.Word.Word, event.Object.Object, hold.HoldKind.HoldKind, row.After.After, words.Words.Words}
pub use Rattle.model_own.specs.Rows.{intent_in, way_in, after_in, answered_in}
pub use Rattle.model_own.specs.declared.{HoldChange.HoldChange, OwnPlace.OwnPlace, Row.Row, Way.Way, Entry.Entry}
pub use Rattle.text_lines.specs.Fault.{line_fault_of, ◌>>=◌, at_line, IsFaultOf}
pub use Rattle.text_lines.specs.Lexer.{lines_of, words_of}
pub use Rattle.text_lines.specs.Numerals.{u64_numerals}
pub use Rattle.text_lines.specs.Several.{parties_of}
pub use Rattle.text_lines.specs.declared.command.{Command.Command, Task.Task}
pub use Rattle.text_lines.specs.declared.fault.{FaultyLine.FaultyLine, LineFault.LineFault}
pub use Rattle.sync_play.specs.Player.{left_after}
pub use Rattle.sync_play.specs.Print.{event_lines}
pub use Rattle.sync_play.specs.Walk.{asked, nothing, most_steps}
pub use Rattle.sync_play.specs.declared.walk.{Step.Step, Rest.Rest}
pub use Rattle.sync_steps.specs.declared.steps.machine.stride.Stride.{Stride}
pub use Rattle.text_own.specs.Judge.{opening_in, entries_of}
pub use Rattle.text_own.specs.Row.{word_at as word_of_place}
pub use Rattle.text_own.specs.Table.{Lock, told_lock, table_of}
pub use Rattle.text_own.specs.declared.table.Calls.{Calls}
