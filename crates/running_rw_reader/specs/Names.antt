-- What this crate reads of others.
pub use Rattle.model_events.specs.declared.WaitAction.{WaitAction}
pub use Rattle.model_events.specs.declared.event.Answer.{Answer}
pub use Rattle.model_events.specs.declared.event.Call.{Call}
pub use Rattle.model_events.specs.declared.event.Then.{Then}
pub use Rattle.model_events.specs.declared.event.Word.{Word}
pub use Rattle.model_events.specs.declared.hold.HoldKind.{HoldKind}
pub use Rattle.model_events.specs.declared.patience.Patience.{Patience}
pub use Rattle.model_events.specs.declared.row.Intent.{Intent}
pub use Rattle.model_rw_reader.specs.Table.{rw_reader_table, rw_reader_intent}
pub use Rattle.model_rw_reader.specs.declared.RwReaderPlace.{RwReaderPlace}
pub use Rattle.running_model.specs.Counts.{HasOnlySeen, HasMoved, WasRefused, HasGivenUp, WasRefusedAt}
pub use Rattle.running_model.specs.Passes.{parties_of, counts_of as tally_of, counted, none_played, both_played, PlaysAndCounts, IsOfARun, counts_of, IsShare, Told, core_played, played_add_up}
pub use Rattle.running_model.specs.Plays.{IsAt, IsHolding, HasCalled, Coming, Beginning, MayStep, Went, Continuing, ComesBy, HasEnded}
pub use Rattle.running_model.specs.Slots.{Slot, Parties, all_of}
pub use Rattle.running_model.specs.Tries.{spun, IsRefused, IsGranted, MayTry, IsToWake}
pub use Rattle.running_passes.specs.Answers.{HasAsked}
pub use Rattle.running_passes.specs.Parts.{IsWhole}
pub use Rattle.running_passes.specs.Passes.{IsSamePass, part_of, sights_of, view}
pub use Rattle.running_passes.specs.Views.{looked, missed, wrote, sum_of, IsCounted}
pub use Rattle.running_passes.specs.declared.view.View.{View}
pub use Rattle.running_rw_hold.specs.declared.hold.RwHold.{RwHold}
pub use Rattle.running_rw_hold.specs.declared.hold.RwPass.{Ghosts}
pub use Rattle.running_rw_hold.specs.Held.{read_holds, write_holds, Locks, same_nothing, tells_same_nothing, held_adds_up}
pub use Rattle.running_rw_hold.specs.RwReader.{Holds, no_holds, read, no_more_read, written, AreHoldsIn, both_holds, held_after, rw_reader_model}
pub use Rattle.running_rw_hold.specs.declared.held.Held.TheVariants.{Free}
pub use Rattle.std.specs.Borrow.{Bor}
pub use Rattle.std.specs.Fn.{Shared}
pub use Rattle.std.specs.Prelude.{IfOk, IfErr}
