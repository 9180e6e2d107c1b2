-- What this crate reads of others.
pub use Rattle.atomic_table.specs.Seated.{TableId, table_id_coded}
pub use Rattle.atomic_table.specs.Table.{State, opening, keeps, takes, gives, put_back, rest, Final, Seen}
pub use Rattle.running_passes.specs.Parts.{IsWhole, IsAgain}
pub use Rattle.running_passes.specs.Sights.{HasWritten, seen, HasOnlyRead}
pub use Rattle.running_passes.specs.Views.{spent_view, sum_of, IsCounted, view_of, wrote, first_view, joined_view}
pub use Rattle.running_passes.specs.declared.part.Sights.{Sights}
pub use Rattle.running_passes.specs.declared.view.View.{View}
pub use Rattle.running_model.specs.Models.{Model}
pub use Rattle.running_model.specs.Passes.{none_played, both_played, core_played, IsOfARun, Told, counted_in, played_add_up}
pub use Rattle.running_model.specs.Carrying.{MovesByCounts, PlaysAndCarries}
pub use Rattle.running_model.specs.Plays.{IsAt, IsHolding, HasEnded, HasCalled, Coming, Went, Going, Beginning, Continuing, ComesBy, Led, MayStep}
pub use Rattle.running_model.specs.Sees.{sights_after}
pub use Rattle.running_model.specs.Slots.{Slot, Parties, all_of}
pub use Rattle.running_model.specs.declared.played.Played.{Played}
pub use Rattle.std.specs.Prelude.{ℕ, List, ◌≡◌, true, Some, None, ◌+◌, ◌<◌, Option, [], ◌∷◌, ◌≢◌, Bool, false, MatchBool}
pub use Rattle.model_events.specs.Runs.{IsPast}
pub use Rattle.model_events.specs.declared.event.Answer.{Answer}
pub use Rattle.model_events.specs.declared.event.Call.{Call}
pub use Rattle.model_events.specs.declared.event.Event.{Event}
pub use Rattle.model_events.specs.declared.event.Then.{Then}
pub use Rattle.model_events.specs.declared.event.Word.{Word}
pub use Rattle.model_events.specs.declared.hold.HoldKind.{HoldKind}
pub use Rattle.model_events.specs.declared.row.Intent.{Intent}
pub use Rattle.model_spin.specs.Law.{KeepsSpin}
pub use Rattle.model_spin.specs.Table.{spin_table}
pub use Rattle.model_spin.specs.declared.SpinPlace.{SpinPlace}
pub use Rattle.running_for_one.specs.ForOne.{no_holds, both_holds, granted, released, holds_after, AreHoldsIn, IsForOne}
pub use Rattle.running_for_one.specs.declared.Holds.{Holds}
pub use lib.ListN.{get_elem?}
pub use Rattle.model_events.specs.Integers.{u64_arithmetic}
pub use Rattle.model_spin.proofs.Laws.{keeps_spin, spin_is_lock}
pub use Rattle.running_model.specs.Holding.{is_holding}
pub use Rattle.std.specs.Borrow.{GName}
pub use Rattle.running_passes.specs.declared.part.Part.{Part}
pub use Rattle.std.proofs.Common.{set, ap, arith}
pub use mathlib.Core.Logic.{dite}
pub use native.Mathlib.Decide.{ℕ_discrete}
pub use Rattle.model_events.specs.Tables.{Table}
pub use Rattle.std.proofs.lemmas.Bool.Decides.{nat_tests}
pub use Rattle.std.proofs.lemmas.Bool.{eqb-true, eqb-false}
