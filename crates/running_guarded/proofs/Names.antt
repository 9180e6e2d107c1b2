-- What the proofs of this crate read: lemmas of others, and definitions.
pub use Rattle.running_passes.proofs.Parts.{parts_again, joins_weight, splits_weight}
pub use Rattle.running_passes.proofs.Steps.{joins, splits}
pub use Rattle.running_model.proofs.Over.{is_over, either_is_over}
pub use Rattle.running_mutex.proofs.MutexPlays.{may_lock, lock_begins, lock_goes, granted_has, is_to_wake, unlock_is_over, may_unlock, unlocks, may_try_lock, try_ends}
pub use Rattle.running_model.proofs.Steps.{zero_or_not}
pub use Rattle.running_mutex.proofs.MutexKeeps.{exchanges}
pub use Rattle.running_mutex.specs.Mutex.{mutex_is_for_one}
pub use Rattle.running_for_one.proofs.OneHold.{tried, tried_alone}
pub use Rattle.running_spin_lock.proofs.ValueKeeps.{carries_none, value_tried, closes, is_there, grants_are_of_a_run, one_holder, held_add_up}
pub use Rattle.std.proofs.Common.{refl, [], ◌∷◌, ap, subst, sym, ◌∙◌, rules, suc}
pub use Rattle.std.proofs.lemmas.Bool.{MatchBool-at_true, MatchBool-at_false}
pub use Rattle.running_guarded.specs.Names.{Option, MutBor, Mut, Called, Bool, false, List, Bor, Shared, seen_instead, MayAnswerContinue, WaitAction, Call, HoldKind, MutexPlace, mutex_model, Slot, all_of, Coming, Going, Beginning, Answered, ComesBy, MayStep, spun, IsGranted, IsRefused, IsStanding, HasMutex, IsLocked, Locks, Enters, table_id_coded, has_vacant_slot, OnceStanding, Answer, IsWhole, Lets, OnceRefused, IsAgain, both_held, ◌≡◌, ◌≤◌, ◌<◌, ℕ, ◌+◌, true, MatchBool, Some, None, Often, arith, eqb-true, eqb-false, nat_tests}
pub use Rattle.running_guarded.specs.Acting.{HasAnswered}
pub use Rattle.model_events.specs.declared.event.Word.{Word}
pub use Rattle.model_events.specs.declared.row.Intent.{Intent}
pub use Rattle.model_events.specs.declared.patience.Patience.{Patience}
pub use Rattle.running_model.proofs.Patience.{spins_on, stands, tries_on}
pub use Rattle.running_guarded.specs.GuardedRule.{MutexView}
pub use Rattle.running_guarded.specs.GuardedSteps.{SeesLocked, Tries, SeesLockedOften, StaysLocked, GivesUp, PlaysBoth, Plays, PlaysUnlock}
pub use Rattle.running_guarded.specs.declared.pass.GuardedPass.{GuardedPass}
pub use Rattle.running_guarded.specs.GuardedShown.{HasLockedOften, grants_of, view, guard_with, HasStayed}
pub use Rattle.std.proofs.Math.Bool.{Bool-set}
pub use Rattle.std.proofs.Math.Nat.{ℕ_set}
pub use Rattle.std.proofs.Math.Bridge.{le_prop}
pub use base.Stored.{Coded-set}
pub use Rattle.running_guarded.specs.declared.guard.Guard.{Guard}
pub use Rattle.running_condvar.proofs.Often.{waits_again, waits_no_more}
pub use Rattle.running_condvar.specs.Often.{HasWaitedOften}
pub use Rattle.running_passes.specs.Views.{joined_view}
