-- The lemmas that other crates cite.
pub use Rattle.model_events.proofs.Asks.{IsAskedAs, waits_first, waits_as, refused_asks, spins_no_more, last_try_bounded, both_kept}
pub use Rattle.model_events.proofs.HoldCounts.{IsOneEach, without_one_each, without_counts, counted_of, both_kinds, unwritten_exclusive, written_exclusive}
pub use Rattle.model_events.proofs.Holds.{eqb_same, eqb_other, some_same, call_of_same, call_of_other, hold_of_same, hold_of_other, no_holds, exclusive_unheld}
pub use Rattle.model_events.proofs.LastSights.{IsLook, kept_or_written, LastSaw, longer, at_last_sight}
pub use Rattle.model_events.proofs.Locks.{IsLockIntent, IsLock, IsFreeOrHeld, holds_after, without_only, lock_word, lock_exclusive}
pub use Rattle.model_events.proofs.NextStep.{ends_within, steps_as, Descends}
pub use Rattle.model_events.proofs.Own.{IsCallAfter, call_was, own_among, at_last_maps, IsToldOf, own_at_last}
pub use Rattle.model_events.proofs.Parties.{at_place_from_rest, each_rests, fault_at_none, IsKept, IsKeptFromRest, IsAtPlaceOrRests, at_place}
pub use Rattle.model_events.proofs.RwAnswers.{LeadsTo, leads_on, answers_by_hold}
pub use Rattle.model_events.proofs.Runs.{plays_next, refuses_next}
pub use Rattle.model_events.proofs.Spins.{HasSpun, spins_spent, answered_keep, begun_spun, passed_on, refused_because}
pub use Rattle.model_events.proofs.Steps.{carried_is_step, carried_goes_on, carried_stage, by_move, tells_memory, lacked_word}
