-- The types of this crate.
pub use Rattle.model_events.specs.declared.WaitAction.{WaitAction}
pub use Rattle.model_events.specs.declared.event.Act.{Act}
pub use Rattle.model_events.specs.declared.event.Answer.{Answer}
pub use Rattle.model_events.specs.declared.event.Call.{Call}
pub use Rattle.model_events.specs.declared.event.Event.{Event}
pub use Rattle.model_events.specs.declared.event.Input.{Input}
pub use Rattle.model_events.specs.declared.event.StepFault.{StepFault}
pub use Rattle.model_events.specs.declared.event.Then.{Then}
pub use Rattle.model_events.specs.declared.event.Word.{Word}
pub use Rattle.model_events.specs.declared.hold.HoldKind.{HoldKind}
pub use Rattle.model_events.specs.declared.patience.Patience.{Patience}
pub use Rattle.model_events.specs.declared.row.After.{After}
pub use Rattle.model_events.specs.declared.row.Intent.{Intent}
pub use Rattle.model_events.specs.declared.words.Words.{Words}
