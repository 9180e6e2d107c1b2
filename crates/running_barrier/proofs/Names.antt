-- What the proofs of this crate read: lemmas of others, and definitions.
pub use Rattle.std.proofs.Common.{rules, sym, subst, ◌∙◌, ◌/◌, ◌==◌, Bool, false, cond, refl, ap, Some}
pub use Rattle.std.proofs.lemmas.Bool.{ne_eqb}
pub use Rattle.running_barrier.specs.Names.{sum, Word, Intent, count_of, arrivals_in, full_rounds, View, IsWhole, total, left_view, right_view, joined_view, sum_of, view, parties_of, counted, Coming, MayStep, none_played, both_played, core_played, played_add_up, IsShare, Acted, Rounds, both_counts, in_round, no_rounds, both_rounds, known_rounds, reaching, arrived, rounds_after, AreRounds, AreRoundsIn, barrier_model, nat_lt, Call, Answer, Then, BarrierPlace, epoch_of, with_arrival, barrier_intent, Slot, Parties, all_of, Going, Beginning, Answered, ComesBy, IsAt, Leads, HasEnded, Went, sights_of, ◌≡◌, ◌<◌, ◌%◌, ◌^◌, ℕ, ◌+◌, ◌≤◌, List, [], ◌∷◌, ◌≢◌, None, arith, eqb-true, eqb-false, nat_tests}
pub use Rattle.model_events.specs.Rows.{carried_out, value_told, within}
pub use Rattle.running_model.specs.Sees.{sights_after}
pub use Rattle.running_model.proofs.OfARun.{of_a_run}
pub use Rattle.running_model.proofs.Steps.{done_so, missed_so}
pub use Rattle.running_passes.proofs.Sums.{sum_at}
pub use Rattle.running_model.specs.CountLists.{in_both}
pub use Rattle.running_barrier.specs.Barrier.{rounds_add_up, sum_cons, sum_more, by_count, again, arrives, waiters_fit}
pub use Rattle.running_barrier.specs.BarrierSteps.{BarrierView, ArrivalsAreOfARun, OpenRoundsAreFull, Says, HasAll, Loaded, Arrives, Exchanged}
pub use Rattle.running_barrier.specs.BarrierShown.{BarrierPass, counts_of, arrivals_of, IsNextWord, waiters_of, HasStayed, reached_of, HasPlayed, HasFilled, AskedEach}
pub use Rattle.model_events.specs.declared.WaitAction.{WaitAction}
pub use Rattle.model_events.specs.declared.row.After.{After}
pub use Rattle.running_model.specs.Turns.{IsOverAside}
pub use Rattle.running_model.specs.Tries.{spun, StandsToWait, IsToWake}
pub use Rattle.running_barrier.specs.BarrierParties.{HasLooked, HasJoined, ComesToStay, Looks, HasLeft, OnceLooked, OnceLooking, OnceToStay}
pub use Rattle.running_model.proofs.Over.{is_over}
