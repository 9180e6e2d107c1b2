-- The lemmas of others that this crate cites.
pub use Rattle.std.proofs.Common.{◌≡◌, ◌≢◌, ◌≤◌, ℕ, ◌==◌, refl, sym, ◌∙◌, subst, Bool, true, false, cond, is_some, List, [], ◌∷◌, Option, Some, None, ◌↔◌, arith, ◌<◌, ◌+◌}
pub use Rattle.std.proofs.lemmas.Bool.{eqb-true, eqb-false}
pub use Rattle.std.proofs.lemmas.Bool.Decides.{nat_tests}
pub use Rattle.model_events.proofs.Exports.{Descends, ends_within, hold_of_same, by_move, tells_memory, IsKept, at_place, waits_first, waits_as, spins_no_more, IsLock, IsLockIntent, IsFreeOrHeld, lock_word, lock_exclusive}
pub use Rattle.model_mutex.specs.Names.{nat_lt, Word, Act, Answer, Event, Then, Patience, After, within, latest_outcome, event, is_failure, failures_in, is_step, keeps_asking, spins_in, stands_at_wait, stands_in, exchanges_in, MatchBool, MatchOption, WaitAction, Call, HoldKind, Table, carried_out, value_told, place_after, same_word, PendingCall, call_of, holds_of, hold_of, hold_after, word_in, Move, step_at, hold_fault, answer_fault, choose_fault, sight_of, is_sight, WhereAsked, Lacks, is_refusal}
pub use Rattle.model_mutex.specs.declared.MutexPlace.{MutexPlace}
pub use Rattle.model_mutex.specs.Table.{mutex_after, mutex_table, mutex_begins, mutex_intent, mutex_answered}
pub use Rattle.model_mutex.specs.Law.{HasTriedAll, LockCause, HasTried, answer_of, acts_of, IsLockAnswer, lock_spins, steps_on, MutexStep, KeepsMutex, mutex_most, mutex_waiting}
