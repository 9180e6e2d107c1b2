-- What this crate reads of others.
pub use Rattle.atomic_table.specs.Table.{State}
pub use Rattle.model_events.specs.declared.WaitAction.{WaitAction}
pub use Rattle.model_events.specs.declared.event.Answer.{Answer}
pub use Rattle.model_events.specs.declared.event.Call.{Call}
pub use Rattle.model_events.specs.declared.event.Then.{Then}
pub use Rattle.model_events.specs.declared.event.Word.{Word}
pub use Rattle.model_events.specs.declared.hold.HoldKind.{HoldKind}
pub use Rattle.model_events.specs.declared.row.Intent.{Intent}
pub use Rattle.model_mutex.specs.Table.{mutex_table, mutex_intent}
pub use Rattle.model_mutex.specs.declared.MutexPlace.{MutexPlace}
pub use Rattle.running_model.specs.Counts.{HasMoved, WasRefused}
pub use Rattle.running_model.specs.Passes.{none_played, both_played, PlaysAndCounts, IsOfARun, counts_of, parties_of, counted, IsShare, Told, core_played, played_add_up}
pub use Rattle.running_model.specs.Plays.{IsAt, HasCalled, IsHolding, Coming, Went, Beginning, MayStep, Continuing, ComesBy, Led}
pub use Rattle.running_model.specs.Sees.{sights_after}
pub use Rattle.running_model.specs.Slots.{Slot, Parties, all_of}
pub use Rattle.running_model.specs.Stages.{IsPassOf}
pub use Rattle.running_model.specs.Tries.{spun, IsRefused, IsGranted, MayTry, IsToWake}
pub use Rattle.running_model.specs.declared.played.Played.{Played}
pub use Rattle.running_passes.specs.Parts.{IsWhole}
pub use Rattle.running_passes.specs.Passes.{IsSamePass, part_of, sights_of, view}
pub use Rattle.running_passes.specs.Views.{sum_of, IsCounted, missed, wrote}
pub use Rattle.running_passes.specs.declared.part.Part.{Part}
pub use Rattle.running_passes.specs.declared.pass.Pass.{Pass}
pub use Rattle.running_passes.specs.declared.view.View.{View}
pub use Rattle.running_for_one.specs.ForOne.{granted, released, AreHoldsIn, both_holds, no_holds, holds_after}
pub use Rattle.running_mutex.specs.Mutex.{mutex_model}
pub use Rattle.running_for_one.specs.declared.Holds.{Holds}
pub use Rattle.running_mutex.specs.declared.script.MutexScript.{MutexScript}
pub use Rattle.std.specs.Borrow.{Bor, GName, RattleType, u64}
