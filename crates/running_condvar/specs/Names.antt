-- What this crate reads of others.
pub use Rattle.atomic_table.specs.Table.{State}
pub use Rattle.model_events.specs.declared.WaitAction.{WaitAction}
pub use Rattle.model_events.specs.declared.event.Act.{Act}
pub use Rattle.model_events.specs.declared.event.Answer.{Answer}
pub use Rattle.model_events.specs.declared.event.Call.{Call}
pub use Rattle.model_events.specs.declared.event.Event.{Event}
pub use Rattle.model_events.specs.declared.event.Then.{Then}
pub use Rattle.model_events.specs.declared.event.Word.{Word}
pub use Rattle.model_events.specs.declared.hold.HoldKind.{HoldKind}
pub use Rattle.model_events.specs.declared.row.Intent.{Intent}
pub use Rattle.model_waiters.specs.Law.{is_in, is_out, ins_in, outs_in, KeepsWaiters}
pub use Rattle.model_waiters.specs.declared.WaitersPlace.{WaitersPlace}
pub use Rattle.running_model.specs.Counts.{HasMoved, WasRefused, HasSeen, HasDone, HasGivenUp}
pub use Rattle.running_model.specs.Passes.{none_played, both_played, PlaysAndCounts, IsOfARun, counts_of, parties_of, StaysOnNoWord, GoesOnByActs, IsShare, Told}
pub use Rattle.running_model.specs.Plays.{IsAt, HasCalled, HasEnded, Coming, Went, Beginning, MayStep, ComesBy}
pub use Rattle.running_model.specs.Sees.{sights_after}
pub use Rattle.running_model.specs.Slots.{Slot, Parties, all_of}
pub use Rattle.running_model.specs.Stages.{IsPassOf}
pub use Rattle.running_model.specs.declared.played.Played.{Played}
pub use Rattle.running_passes.specs.Answers.{MayAnswerAbort, HasAsked}
pub use Rattle.running_passes.specs.Parts.{IsWhole}
pub use Rattle.running_passes.specs.Passes.{IsSamePass, part_of, sights_of, view}
pub use Rattle.running_passes.specs.Sights.{HasLooked}
pub use Rattle.running_passes.specs.Views.{sum_of, IsCounted, wrote, looked}
pub use Rattle.running_passes.specs.declared.part.Part.{Part}
pub use Rattle.running_passes.specs.declared.pass.Pass.{Pass}
pub use Rattle.running_passes.specs.declared.view.View.{View}
pub use Rattle.running_semaphore.specs.SemaphoreShown.{SemPass, IsSemPass, IsEmpty, AskedForPermit, HasTaken, worth_of, HasPlayed, HasPlayedPost, initial_of}
pub use Rattle.running_semaphore.specs.SemaphoreSteps.{gave}
pub use Rattle.running_for_one.specs.ForOne.{granted, released}
pub use Rattle.running_mutex.specs.Mutex.{mutex_model}
pub use Rattle.running_for_one.specs.declared.Holds.{Holds}
pub use Rattle.std.proofs.Common.{cond, refl, arith, zero, suc}
pub use Rattle.std.specs.Borrow.{Bor}
pub use Rattle.std.specs.Fn.{Mut, Shared, Once, FnOnceReturnsAt}
pub use Rattle.std.specs.Prelude.{min}
