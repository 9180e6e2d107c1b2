-- What this crate reads of others.
pub use Rattle.std.specs.Fmt.{decimal}
pub use Rattle.std.specs.Io.KnownBytes.{Appends, Consumes, IsAtEnd}
pub use Rattle.std.specs.Prelude.{ℕ, codes, replicate, string_bytes}
pub use Rattle.model_events.specs.Exports.{Arithmetic, IsValue, CallValues, Move, InputValues, failures_in, call_of, hold_of, after, goes_on}
pub use Rattle.model_events.specs.declared.{event.Act.Act, event.Answer.Answer, event.Call.Call, event.Event.Event, event.Input.Input, event.Object.Object, event.StepFault.StepFault, event.Then.Then, event.Wake.Wake, event.Word.Word}
pub use Rattle.text_lines.specs.Call.{name_of, named}
pub use Rattle.text_lines.specs.Command.{values_written, verbs, with_one, with_two, call_if, task_if}
unfoldable pub use Rattle.text_lines.specs.Command.{task_of, command_of}
pub use Rattle.text_lines.specs.Fault.{line_fault_of, ◌>>=◌, at_line, IsFaultOf}
unfoldable pub use Rattle.text_lines.specs.Header.{header_of}
pub use Rattle.text_lines.specs.Lexer.{lines_of, words_of, find, only_two}
pub use Rattle.text_lines.specs.Numerals.{Numerals, ReadsItsOwn, ReadsValues, u64_numerals}
pub use Rattle.text_lines.specs.Objects.{calls_of}
pub use Rattle.text_lines.specs.ValueTypes.{meaning_of, values_in}
pub use Rattle.text_lines.specs.declared.command.Command.{Command}
pub use Rattle.text_lines.specs.declared.command.Task.{Task}
pub use Rattle.text_lines.specs.declared.fault.FaultyLine.{FaultyLine}
pub use Rattle.text_lines.specs.declared.fault.LineFault.{LineFault}
pub use Rattle.text_lines.specs.declared.fault.TextFault.{TextFault}
pub use Rattle.text_lines.specs.declared.header.Header.{Header}
pub use Rattle.sync_steps.specs.Machine.{Configuration, StandsAt, Steps, RefusesStep}
pub use Rattle.sync_steps.specs.Machine.Strides.{is_quiet, IsQuiet, steps_of, Strides}
pub use Rattle.sync_steps.specs.Objects.{has_call, table_of}
pub use Rattle.sync_steps.specs.Runs.{fault_of, IsRun, move_of, word_in, IsNext}
pub use Rattle.sync_steps.specs.declared.steps.machine.stride.Stride.{Stride, Stride as EventStride}
