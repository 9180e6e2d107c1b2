-- What this crate reads of others.
pub use Rattle.running_passes.specs.Parts.{IsWhole, total}
pub use Rattle.running_passes.specs.Passes.{IsSamePass, part_of, sights_of, view}
pub use Rattle.running_passes.specs.Sights.{seen, stale}
pub use Rattle.running_passes.specs.Views.{view_of, looked, missed, sum_of, IsCounted, left_view, right_view, joined_view}
pub use Rattle.running_passes.specs.declared.view.View.{View}
pub use Rattle.running_model.specs.Passes.{parties_of, counts_of as tally_of, none_played, both_played, PlaysAndCounts, IsOfARun, counted, core_played, played_add_up, IsShare, Acted}
pub use Rattle.running_model.specs.Plays.{IsAt, Leads, HasEnded, HasCalled, Going, Beginning, Went, Coming, Answered, ComesBy, MayStep}
pub use Rattle.running_model.specs.Slots.{Slot, Parties, all_of}
pub use Rattle.running_model.specs.declared.played.Played.{Played}
pub use Rattle.std.specs.List.{sum}
pub use Rattle.std.specs.Prelude.{ℕ, List, None, ◌≡◌, ◌+◌, ◌<◌, ◌≤◌, ◌%◌, ◌^◌, ◌≢◌, [], ◌∷◌, nat_lt}
pub use Rattle.model_barrier.specs.Rounds.{epoch_of, count_of, opened, with_arrival, arrivals_in, full_rounds}
pub use Rattle.model_barrier.specs.Table.{look, joined, stay, barrier_intent}
pub use Rattle.model_barrier.specs.declared.BarrierPlace.{BarrierPlace}
pub use Rattle.model_events.specs.declared.event.Answer.{Answer}
pub use Rattle.model_events.specs.declared.event.Call.{Call}
pub use Rattle.model_events.specs.declared.event.Then.{Then}
pub use Rattle.model_events.specs.declared.event.Word.{Word}
pub use Rattle.model_events.specs.declared.row.Intent.{Intent}
pub use Rattle.running_barrier.specs.Barrier.{in_round, no_rounds, both_rounds, known_rounds, reaching, arrived, rounds_after, word_of, AreRounds, AreRoundsIn, barrier_model}
pub use Rattle.running_model.specs.CountLists.{one_more, both_counts}
pub use Rattle.running_barrier.specs.declared.rounds.BarrierScript.{BarrierScript}
pub use Rattle.running_barrier.specs.declared.rounds.Rounds.{Rounds}
pub use Rattle.running_passes.specs.declared.pass.Pass.{Pass}
pub use Rattle.running_model.specs.Stages.{IsPassOf, key_of}
pub use mathlib.Core.Option.{some}
pub use lib.ListN.{get_elem?}
pub use Rattle.atomic_table.specs.Table.{State}
pub use Rattle.std.proofs.Common.{arith}
pub use Rattle.std.proofs.lemmas.Bool.Decides.{nat_tests}
pub use Rattle.std.proofs.lemmas.Bool.{eqb-true, eqb-false}
