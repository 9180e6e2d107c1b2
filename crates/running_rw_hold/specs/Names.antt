-- The lemmas of others that this crate cites.
pub use Rattle.model_events.specs.declared.hold.HoldKind.{HoldKind}
pub use Rattle.running_passes.specs.Passes.{part_of, sights_of}
pub use Rattle.running_passes.specs.Views.{looked, wrote}
pub use Rattle.running_passes.specs.declared.pass.Pass.{Pass}
