-- What this crate reads of others.
pub use Rattle.model_events.specs.Exports.{Arithmetic, Move, goes_on, after}
pub use Rattle.model_events.specs.declared.{event.Input.Input, event.Object.Object}
pub use Rattle.text_lines.specs.Fault.{line_fault_of, ◌>>=◌, at_line, IsFaultOf}
pub use Rattle.text_lines.specs.Lexer.{lines_of, words_of}
pub use Rattle.text_lines.specs.Names.{bytes_eq}
pub use Rattle.text_lines.specs.Numerals.{Numerals}
pub use Rattle.text_lines.specs.Several.{is_several, parties_of, let_of}
unfoldable pub use Rattle.text_lines.specs.Several.{room_command_of}
pub use Rattle.text_lines.specs.ValueTypes.{values_in}
pub use Rattle.text_lines.specs.declared.command.Task.{Task}
pub use Rattle.text_lines.specs.declared.fault.FaultyLine.{FaultyLine}
pub use Rattle.text_lines.specs.declared.fault.LineFault.{LineFault}
pub use Rattle.text_lines.specs.declared.fault.TextFault.{TextFault}
pub use Rattle.text_lines.specs.declared.several.RoomCommand.{RoomCommand}
pub use Rattle.model_room.specs.declared.event.RoomEvent.{RoomEvent}
pub use Rattle.model_room.specs.declared.event.RoomStride.{RoomStride}
pub use Rattle.model_room.specs.declared.fault.RoomFault.{RoomFault}
pub use Rattle.model_room.specs.Room.{Seating, StandsAt}
pub use Rattle.model_room.specs.Runs.{events_of, seat_of, fault_of, all_of}
pub use Rattle.sync_play.specs.Player.{steps_left}
pub use Rattle.sync_play.specs.Print.{printed, last_line}
pub use Rattle.sync_play.specs.WalkOutput.{output_unless}
