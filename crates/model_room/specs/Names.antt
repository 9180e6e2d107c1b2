-- What this crate reads of others.
pub use Rattle.std.specs.Borrow.{Bor}
pub use Rattle.std.specs.Option.{ForSome}
pub use Rattle.model_events.specs.Exports.{Arithmetic, PendingCall, call_of, IsRunBy, ContinuesBy, ContinuesUpTo}
pub use Rattle.model_events.specs.declared.{event.Event.Event, event.Input.Input, event.Object.Object, event.StepFault.StepFault, event.Then.Then}
pub use Rattle.sync_steps.specs.Objects.{IsObject, Headline}
pub use Rattle.model_room.specs.declared.event.RoomEvent.{RoomEvent}
pub use Rattle.model_room.specs.declared.event.RoomInput.{RoomInput}
pub use Rattle.model_room.specs.declared.fault.RoomFault.{RoomFault}
pub use Rattle.model_room.specs.declared.fault.RoomPlayFault.{RoomPlayFault}
