-- What this crate reads of others.
pub use Rattle.model_events.specs.declared.WaitAction.{WaitAction}
pub use Rattle.model_events.specs.declared.event.Answer.{Answer}
pub use Rattle.model_events.specs.declared.event.Call.{Call}
pub use Rattle.model_events.specs.declared.event.Word.{Word}
pub use Rattle.model_events.specs.declared.hold.HoldKind.{HoldKind}
pub use Rattle.model_events.specs.declared.patience.Patience.{Patience}
pub use Rattle.model_events.specs.declared.row.After.{After}
pub use Rattle.model_events.specs.declared.row.Intent.{Intent}
pub use Rattle.model_rw_writer.specs.Table.{rw_writer_table, woken_one, read_look, write_look, spins, released, unmarks_or_leaves, rw_writer_grant, rw_writer_intent, is_blocked, try_read_look, marks_or_spins, write_refused, last_look, woken_all, is_last_reader}
pub use Rattle.model_rw_writer.specs.declared.Leaver.{Leaver}
pub use Rattle.model_rw_writer.specs.declared.RwWriterPlace.{RwWriterPlace}
pub use Rattle.running_model.specs.Counts.{HasOnlySeen, HasMoved, HasSeen}
pub use Rattle.running_model.specs.Holding.{is_holding}
pub use Rattle.running_model.specs.Passes.{parties_of, counts_of as tally_of, counted, none_played, both_played, PlaysAndCounts, IsOfARun, counts_of, core_played, played_add_up, IsShare, Told}
pub use Rattle.running_model.specs.Plays.{Coming, Answered, ComesBy, IsHolding, Leads, HasEnded, MayStep, Went, HasCalled, Going, Beginning, Continuing}
pub use Rattle.running_model.specs.Slots.{Slot, Parties, all_of}
pub use Rattle.running_model.specs.Tries.{spun, IsGranted, StandsToWait}
pub use Rattle.running_model.specs.Words.{IsNamed, IsStepOn}
pub use Rattle.running_passes.specs.Parts.{IsWhole, Each}
pub use Rattle.running_passes.specs.Passes.{IsSamePass, view, part_of, sights_of}
pub use Rattle.running_passes.specs.Sights.{seen_instead, seen}
pub use Rattle.running_passes.specs.Views.{looked, missed, wrote, view_of, IsCounted, sum_of}
pub use Rattle.running_passes.specs.declared.part.Part.{Part}
pub use Rattle.running_passes.specs.declared.part.Sights.{Sights}
pub use Rattle.running_passes.specs.declared.pass.Pass.{Pass}
pub use Rattle.running_passes.specs.declared.view.View.{View}
pub use Rattle.running_rw_hold.specs.declared.hold.RwHold.{RwHold}
pub use Rattle.running_rw_hold.specs.declared.hold.RwPass.{Ghosts}
pub use Rattle.running_rw_hold.specs.Held.{read_holds, write_holds, Knows, same_nothing, tells_same_nothing}
pub use Rattle.running_rw_hold.specs.RwReader.{no_holds, Holds, both_holds}
pub use Rattle.running_rw_writer.specs.RwWriter.{read, no_more_read, written, no_more_written, flagged, nothing_marked, both_marked, lowered, AreMarkedIn, IsMarkedOrHeld, marked_sees, marked_after, rw_writer_model, rw_writer_handed}
pub use Rattle.running_rw_writer.specs.declared.marked.MarkedHolds.{MarkedHolds}
pub use mathlib.Core.Logic.{dite}
pub use native.Mathlib.Decide.{ℕ_discrete}
