-- The lemmas of others that this crate cites.
pub use Rattle.std.proofs.Common.{◌≡◌, ◌≢◌, ℕ, ◌+◌, ◌-◌, ◌%◌, ◌^◌, ◌==◌, refl, sym, ◌∙◌, subst, Bool, true, false, cond, List, [], ◌∷◌, length, ◌⊎◌, inl, inr, arith, ap, Option, Some, None, ◌↔◌, ◌≤◌, ◌<◌, is_some}
pub use Rattle.std.proofs.lemmas.Bool.{eqb-true, eqb-false}
pub use Rattle.std.proofs.lemmas.Bool.Decides.{eqb_tells, nat_tests}
pub use Rattle.model_events.proofs.Exports.{waits_first, waits_as, spins_no_more, eqb_other, hold_of_same, at_last_sight, LastSaw, at_place, fault_at_none, IsKept, HasSpun, begun_spun, passed_on, by_move, tells_memory, IsLock, IsLockIntent, IsFreeOrHeld, lock_word, lock_exclusive}
pub use Rattle.model_mutex.proofs.Laws.{AtMutex, mutex_rest}
pub use Rattle.model_mutex.proofs.LockSteps.{LockLeads, lock_leads, AtLock, lock_begins}
pub use Rattle.model_semaphore.proofs.WaitSteps.{WaitLeads, wait_leads, AtWait}
pub use Rattle.model_condvar.specs.Names.{WaitAction, Word, Wake, Call, Act, Answer, Event, Then, HoldKind, After, Arithmetic, carried_out, value_told, place_after, within, PendingCall, event, latest_outcome, step_at, answer_fault, choose_fault, is_step, IsPast, is_abort, keeps_asking, spins_in, StepsAs, EndsWithin, Exchanges, MutexPlace, SemaphorePlace, is_empty_look, call_of, call_after, word_in, word_after, IfSome, MatchBool, MatchOption, outcome_of, same_word, call_going_on, holds_of, hold_of, hold_after, Move, fault_at, begin_fault, sight_of, is_sight, WhereAsked, IsTold, Lacks, is_refusal, mutex_after, acts_of, answer_of, permits_given, permits_taken, is_take, number_answered, is_release, hold_fault, acts_in, but_last_try, mutex_intent, mutex_grant}
pub use Rattle.model_condvar.specs.declared.CondvarPlace.{CondvarPlace}
pub use Rattle.model_condvar.specs.Table.{condvar_begins, condvar_after, condvar_answered, condvar_table, permitted, condvar_grant, relocked, permits_for}
pub use Rattle.model_condvar.specs.Waiters.{since_count, is_count, is_counted, without, times, CountsWaiters, counts_in}
pub use Rattle.model_condvar.specs.Law.{left_waiting, LooksForPermit, CountsOut, CountedNext, condvar_most, CondvarStep, condvar_gives, condvar_value, HasAbortedSince, FoundNoPermit, CondvarCause, IsAnswer, spins_of, gives_up, HasTried, KeepsCondvar, spins_on, refused_by, wait_of, condvar_waiting, count_read, amount_for, takes_in, is_wake_one, is_read, is_post}
