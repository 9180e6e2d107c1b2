-- The lemmas of others that this crate cites.
pub use Rattle.std.proofs.Common.{◌≡◌, ℕ, ◌+◌, ◌-◌, ◌≤◌, ◌<◌, ◌%◌, ◌^◌, ◌==◌, refl, Bool, true, false, cond, List, [], ◌∷◌, Option, Some, None, inl, inr, arith, ◌≢◌, ◌⊎◌}
pub use Rattle.std.proofs.lemmas.Bool.{eqb-true, eqb-false}
pub use Rattle.model_events.proofs.Spins.{HasSpun}
pub use Rattle.std.proofs.lemmas.Bool.Decides.{nat_tests}
pub use Rattle.model_events.proofs.Exports.{Descends, ends_within, no_holds, exclusive_unheld, by_move, tells_memory, IsKept, at_place, waits_first, waits_as, spins_no_more}
pub use Rattle.model_semaphore.specs.Names.{Word, Act, Answer, Event, Then, After, carried_out, value_told, latest_outcome, event, sight_of, is_abort, keeps_asking, spins_in, IfSome, MatchBool, MatchOption, is_some, WaitAction, Call, place_after, same_word, PendingCall, call_of, hold_of, word_in, word_after, Move, step_at, is_step, last_of, WhereAsked, is_apart, Lacks, is_refusal}
pub use Rattle.model_semaphore.specs.declared.SemaphorePlace.{SemaphorePlace}
pub use Rattle.model_semaphore.specs.Table.{semaphore_intent, semaphore_after, semaphore_table, semaphore_begins, semaphore_answered}
pub use Rattle.model_semaphore.specs.Permits.{is_take, permits_given, permits_taken, number_answered}
pub use Rattle.model_semaphore.specs.Law.{is_empty_look, semaphore_gives, semaphore_value, SemaphoreCause, wait_spins, permits_seen, SemaphoreStep, KeepsSemaphore, semaphore_most, semaphore_waiting}
