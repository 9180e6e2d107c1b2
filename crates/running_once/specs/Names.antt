-- What this crate reads of others.
pub use Rattle.running_passes.specs.Parts.{IsWhole, total}
pub use Rattle.running_passes.specs.Passes.{IsSamePass, view, part_of, sights_of}
pub use Rattle.running_passes.specs.Views.{view_of, looked, wrote, IsCounted, sum_of}
pub use Rattle.running_passes.specs.declared.view.View.{View}
pub use Rattle.running_model.specs.Passes.{none_played, both_played, PlaysAndCounts, IsOfARun, parties_of, counts_of, counted, StaysOnNoWord, GoesOnByActs, IsShare, Told, core_played, played_add_up}
pub use Rattle.running_model.specs.Plays.{HasCalled, IsAt, HasEnded, Going, Aside, Beginning, MayStep, Went, Coming, ComesBy, Led}
pub use Rattle.running_model.specs.Slots.{Parties, Slot, all_of}
pub use Rattle.running_model.specs.declared.played.Played.{Played}
pub use Rattle.std.specs.Prelude.{◌≡◌, ℕ, true, None, List, ◌≢◌, ◌+◌, Bool, false, ◌||◌, ◌==◌, [], ◌∷◌, MatchBool}
pub use Rattle.model_events.specs.declared.event.Act.{Act}
pub use Rattle.model_events.specs.declared.event.Answer.{Answer}
pub use Rattle.model_events.specs.declared.event.Call.{Call}
pub use Rattle.model_events.specs.declared.event.Event.{Event}
pub use Rattle.model_events.specs.declared.event.Then.{Then}
pub use Rattle.model_events.specs.declared.event.Word.{Word}
pub use Rattle.model_events.specs.declared.row.Intent.{Intent}
pub use Rattle.model_once.specs.Closures.{ends_in, begins_in, is_begin, is_end}
pub use Rattle.model_once.specs.Law.{KeepsOnce}
pub use Rattle.model_once.specs.Table.{once_table, once_intent}
pub use Rattle.model_once.specs.declared.OncePlace.{OncePlace}
pub use mathlib.Core.Option.{some}
pub use lib.ListN.{get_elem?}
pub use Rattle.atomic_table.specs.Table.{State}
pub use Rattle.model_events.specs.Past.{word_in, word_after}
pub use Rattle.model_events.specs.Sights.{acts_in}
pub use Rattle.running_once.specs.declared.Runs.{Runs}
pub use Rattle.running_once.specs.declared.OnceScript.{OnceScript}
pub use Rattle.model_events.specs.Integers.{u64_arithmetic}
pub use Rattle.running_model.specs.Models.{Model}
pub use Rattle.model_events.specs.Runs.{IsPast}
pub use Rattle.model_once.proofs.Laws.{keeps_once}
pub use Rattle.running_passes.specs.declared.part.Part.{Part}
pub use Rattle.running_passes.specs.declared.part.Sights.{Sights}
pub use Rattle.running_passes.specs.declared.pass.Pass.{Pass}
pub use Rattle.running_model.specs.Stages.{IsPassOf}
pub use Rattle.std.proofs.Common.{cond, refl, ap, ◌∙◌, arith}
pub use Rattle.std.proofs.lemmas.Bool.{eqb-true, eqb-false}
pub use Rattle.std.proofs.lemmas.Bool.Decides.{nat_tests}
pub use Rattle.model_events.specs.Rows.{carried_out}
pub use Rattle.running_passes.specs.Tallies.{IsTally}
