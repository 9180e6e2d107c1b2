-- What this crate reads of others.
pub use Rattle.model_events.specs.Rows.{within, refused, carried_out, value_told}
pub use Rattle.model_events.specs.declared.event.Answer.{Answer}
pub use Rattle.model_events.specs.declared.event.Call.{Call}
pub use Rattle.model_events.specs.declared.event.Then.{Then}
pub use Rattle.model_events.specs.declared.event.Word.{Word}
pub use Rattle.model_events.specs.declared.row.Intent.{Intent}
pub use Rattle.model_semaphore.specs.Table.{try_look, look, semaphore_table, semaphore_intent}
pub use Rattle.model_semaphore.specs.declared.SemaphorePlace.{SemaphorePlace}
pub use Rattle.running_model.specs.Counts.{HasMoved, HasDone, WasRefused, HasSeen, HasOnlySeen, HasMissed}
pub use Rattle.running_model.specs.Passes.{parties_of, counts_of, counted, none_played, both_played, PlaysAndCounts, IsOfARun, IsShare, Told, played}
pub use Rattle.running_model.specs.Plays.{Coming, ComesBy, Leads, HasEnded, HasCalled, IsAt, Beginning, MayStep, Went, Going}
pub use Rattle.running_model.specs.Sees.{sights_after}
pub use Rattle.running_model.specs.Slots.{Slot, Parties, all_of}
pub use Rattle.running_model.specs.Tries.{spun, MayTry, IsToWake}
pub use Rattle.running_model.specs.declared.played.Played.{Played}
pub use Rattle.running_passes.specs.Answers.{IsSuccess, IsInterrupted, IfInterrupted}
pub use Rattle.running_passes.specs.Parts.{IsWhole}
pub use Rattle.running_passes.specs.Passes.{IsSamePass, part_of, sights_of, view}
pub use Rattle.running_passes.specs.Sights.{LooksOnceOrMisses, HasLooked}
pub use Rattle.running_passes.specs.Views.{looked, wrote, sum_of, IsCounted, missed}
pub use Rattle.running_passes.specs.declared.view.View.{View}
pub use Rattle.running_passes.specs.declared.wait.WaitResult.{WaitResult}
pub use Rattle.running_passes.specs.declared.wait.WaitResult.TheVariants.{Success, Interrupted}
pub use Rattle.running_semaphore.specs.Semaphore.{value_of, permits, no_permits, both_permits, ArePermitsOf, permits_after, semaphore_model}
pub use Rattle.running_semaphore.specs.declared.permits.Permits.{Permits}
pub use Rattle.running_semaphore.specs.declared.permits.SemaphoreScript.{SemaphoreScript}
