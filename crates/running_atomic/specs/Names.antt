-- What this crate reads of others.
pub use Rattle.running_passes.specs.Parts.{IsWhole, together}
pub use Rattle.running_passes.specs.Passes.{IsSamePass, view, part_of, tally_of}
pub use Rattle.running_passes.specs.Views.{missed, wrote, sum_of, IsCounted, looked, view_of, joined_view}
pub use Rattle.running_passes.specs.declared.pass.Pass.{Pass}
pub use Rattle.running_passes.specs.declared.view.View.{View}
pub use Rattle.running_model.specs.Passes.{StaysOnNoWord, parties_of, counts_of, counted, counted_in, none_played, both_played, PlaysAndCounts, SameOnNoWord, GoesOnByActs, IsShare, Acted, Learned, core_played, played_add_up}
pub use Rattle.running_model.specs.Plays.{events_of, Matches, Coming, ComesBy, IsAt, Leads, HasEnded, HasCalled, Going, Beginning, Choosing, MayStep, Went, IsPlayed}
pub use Rattle.running_model.specs.Slots.{Slot, Parties, slot_at, all_of}
pub use Rattle.running_model.specs.Stages.{IsPassOf, key_of}
pub use Rattle.running_model.specs.Words.{IsOnNoWord, on_no_word, AllHold}
pub use Rattle.std.specs.Int.{w128, w64}
pub use Rattle.std.specs.Prelude.{◌≡◌, ◌≢◌, ◌-◌, ◌^◌, Bool, true, false, cond, List, [], ◌∷◌, ℕ, not, Option, Some, None, ◌++◌, length, ◌≤◌, MatchBool, ◌+◌}
pub use Rattle.model_atomic.specs.Register.{RegisterAct, register_after, acts_of_run, ends_at_look, choice_for, plain, update, act_of, acted, is_last, answer_of, after_acts, acts_at, answer_to, value_after, Outcome, choice_of, act_by}
pub use Rattle.model_atomic.specs.Table.{atomic_table, atomic_begins, atomic_grant, atomic_intent, puts, inside, knows, look_at, compares}
pub use Rattle.model_rw_reader.specs.Table.{release}
pub use Rattle.model_atomic.specs.declared.AtomicPlace.{AtomicPlace}
pub use Rattle.model_events.specs.Arithmetic.{Arithmetic, IsValue, IsClosed}
pub use Rattle.model_events.specs.Integers.{i128_arithmetic, i64_arithmetic, u128_arithmetic, u64_arithmetic}
pub use Rattle.model_events.specs.Moves.{hold_fault, CallValues, stage_of}
pub use Rattle.model_events.specs.Past.{PendingCall, call_of, hold_of, word_in, word_after}
pub use Rattle.model_events.specs.Rows.{carried_out}
pub use Rattle.model_events.specs.Runs.{IsPast}
pub use Rattle.model_events.specs.declared.event.Act.{Act}
pub use Rattle.model_events.specs.declared.event.Answer.{Answer}
pub use Rattle.model_events.specs.declared.event.Call.{Call}
pub use Rattle.model_events.specs.declared.event.Event.{Event}
pub use Rattle.model_events.specs.declared.event.Word.{Word}
pub use Rattle.model_events.specs.declared.hold.HoldKind.{HoldKind}
pub use Rattle.model_events.specs.declared.row.After.{After}
pub use Rattle.model_events.specs.declared.row.Intent.{Intent}
pub use Rattle.running_model.specs.CountLists.{count_at, one_more, both_counts, counts_swap, counts_group}
pub use Rattle.running_rw_hold.specs.Held.{TellsSame, Locks, write_holds, both_held, held_adds_up}
pub use Rattle.running_rw_hold.specs.declared.held.Held.{Held}
pub use Rattle.running_rw_hold.specs.declared.held.Held.TheVariants.{Free, Reading, Writing}
pub use Rattle.std.proofs.Common.{zero, suc, refl, sym, ap, ◌∙◌, ⊎_elim, inl, inr, arith, ◌%◌, ◌<◌, subst}
pub use Rattle.running_atomic.specs.declared.history.Place.{Place}
pub use Rattle.std.proofs.lemmas.Bool.{eqb-true, eqb-false, ne_eqb}
pub use Rattle.std.proofs.lemmas.Bool.Decides.{nat_tests}
pub use Rattle.std.proofs.lemmas.List.{append-nil}
pub use Rattle.model_events.proofs.Parties.{IsKeptFromRest, Whatever, at_place_from_rest}
pub use Rattle.model_atomic.proofs.Acts.{puts_at, looks_at, again_at, put_is_chosen, register_by_acts}
pub use Rattle.model_atomic.proofs.Data.{Will, DataAt, data_at, keeps, keeps_atomic}
pub use Rattle.model_atomic.proofs.Places.{AtAtomic, here}
pub use Rattle.running_atomic.specs.declared.history.AtomicTally.{AtomicTally}
pub use Rattle.running_atomic.specs.declared.history.Content.{Content}
pub use Rattle.running_atomic.specs.declared.history.AtomicAct.{AtomicAct}
pub use Rattle.running_atomic.specs.declared.history.Heard.{Heard}
pub use Rattle.model_atomic.specs.Law.{KeepsAtomic}
pub use Rattle.running_model.specs.Models.{Model}
pub use Rattle.model_events.specs.declared.event.Then.{Then}
pub use Rattle.running_passes.specs.Sights.{seen}
pub use Rattle.running_passes.specs.declared.part.Sights.{Sights}
pub use Rattle.running_model.specs.Sees.{sights_after}
pub use Rattle.running_passes.specs.declared.part.Part.{Part}
pub use mathlib.Core.Option.{some}
pub use lib.ListN.{get_elem?}
pub use Rattle.atomic_table.specs.Table.{State}
pub use Rattle.running_model.specs.declared.played.Played.{Played}
pub use Rattle.running_passes.specs.Tallies.{IsTally}
pub use Rattle.running_model.specs.CountLists.{in_both, more_in_both}
