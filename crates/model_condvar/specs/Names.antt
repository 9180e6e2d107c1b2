-- What this crate reads of others.
pub use Rattle.std.specs.Prelude.{MatchBool, MatchOption, IfSome}
pub use Rattle.model_events.specs.Exports.{Arithmetic, SpinCount, but_last_try, Refusing, WaitEvents, Waiting, WaitsAs, WhereAsked, IsLocked, Keeps, IsTold, Lacks, is_refusal, is_step, Move, step_at, fault_at, begin_fault, answer_fault, choose_fault, hold_fault, StepsAs, refused_waiting, EndsWithin, step_before, Loads, Exchanges, PendingCall, call_of, hold_of, is_failure, word_in, call_after, word_after, same_word, call_going_on, holds_of, hold_after, event, latest_outcome, is_release, within, within_then, carried_out, value_told, outcome_of, place_after, IsPast, sight_of, AtLastSight, keeps_asking, spins_in, acts_in, is_sight, is_abort}
pub use Rattle.model_events.specs.declared.{WaitAction.WaitAction, event.Act.Act, event.Answer.Answer, event.Call.Call, event.Event.Event, event.Then.Then, event.Wake.Wake, event.Word.Word, hold.HoldKind.HoldKind, row.After.After}
pub use Rattle.model_mutex.specs.Law.{LockCause, HasTriedAll, answer_of, acts_of, IsLockAnswer, IsExactGrant, MutexStep, mutex_most}
pub use Rattle.model_mutex.specs.Table.{mutex_begins, mutex_intent, mutex_after, mutex_answered, mutex_needs_hold, mutex_grant}
pub use Rattle.model_mutex.specs.declared.MutexPlace.{MutexPlace}
pub use Rattle.model_semaphore.specs.Law.{is_empty_look}
pub use Rattle.model_semaphore.specs.Permits.{permits, permits_taken, KeepsPermits, permits_given, is_take, number_answered}
pub use Rattle.model_semaphore.specs.Table.{semaphore_intent, semaphore_after, semaphore_answered}
pub use Rattle.model_semaphore.specs.declared.SemaphorePlace.{SemaphorePlace}
