-- What this crate reads of others.
pub use Rattle.atomic_table.specs.Seated.{TableId, table_id_coded}
pub use Rattle.running_passes.specs.Answers.{MayAnswerContinue}
pub use Rattle.running_passes.specs.Parts.{IsWhole, IsAgain}
pub use Rattle.running_passes.specs.Sights.{HasWritten, seen_instead}
pub use Rattle.running_model.specs.Plays.{Coming, HasCalled, Going, Beginning, Answered, ComesBy, MayStep}
pub use Rattle.running_model.specs.Slots.{Parties, Slot, all_of}
pub use Rattle.running_model.specs.Tries.{spun, IsGranted, IsRefused, IsStanding, OnceStanding, OnceRefused}
pub use Rattle.running_mutex.specs.MutexParties.{Unlocks, HasMutex}
pub use Rattle.running_mutex.specs.MutexShown.{IsLocked}
pub use Rattle.running_condvar.specs.Often.{Often}
pub use Rattle.running_spin_lock.specs.ValueRule.{HasOneHolder, GrantsAreOfARunOf, view_in, both_held}
pub use Rattle.running_spin_lock.specs.ValueSteps.{Locks, Lets, Enters, Sees, OnlySees, has_vacant_slot}
pub use Rattle.std.specs.Borrow.{MutBor, GName, Bor}
pub use Rattle.std.specs.Fn.{Mut, CalledAtMut, Shared, Once, FnOnceReturnsAtMut, Called}
pub use Rattle.std.specs.Prelude.{Option, Some, ◌≡◌, ℕ, ◌+◌, ◌<◌, ◌≤◌, Bool, None, true, false, MatchBool, List}
pub use Rattle.model_events.specs.declared.WaitAction.{WaitAction}
pub use Rattle.model_events.specs.declared.event.Answer.{Answer}
pub use Rattle.model_events.specs.declared.event.Call.{Call}
pub use Rattle.model_events.specs.declared.hold.HoldKind.{HoldKind}
pub use Rattle.model_mutex.specs.declared.MutexPlace.{MutexPlace}
pub use Rattle.running_mutex.specs.Mutex.{mutex_model}
pub use Rattle.running_passes.specs.declared.wait.WaitResult.{WaitResult}
pub use Rattle.running_passes.specs.declared.wait.WaitResult.TheVariants.{Success, Interrupted}
pub use Rattle.running_passes.specs.declared.view.View.{View}
pub use Rattle.running_mutex.specs.declared.script.MutexScript.{MutexScript}
pub use Rattle.running_mutex.specs.MutexSteps.{PlayedMutex}
pub use Rattle.running_passes.specs.declared.part.Part.{Part}
pub use Rattle.running_passes.specs.declared.part.Sights.{Sights}
pub use Rattle.std.proofs.Common.{arith}
pub use Rattle.std.proofs.lemmas.Bool.Decides.{nat_tests}
pub use Rattle.std.proofs.lemmas.Bool.{eqb-true, eqb-false}
