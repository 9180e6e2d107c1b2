-- What the proofs of this crate read of others, and of its own definitions.
pub use Rattle.running_condvar.specs.Names.{Call, Answer, Bor, Mut, Shared, WaitAction, IsWhole, part_of, counts_of, gave, HasGivenUp, Word, Intent, Coming, MayStep, Parties, View, looked, wrote, view, parties_of, IsShare, Told, sights_after, Beginning, ComesBy, Went, Slot, all_of, min}
pub use Rattle.running_condvar.specs.CondParties.{IsInside, IsOut, Plays}
pub use Rattle.running_condvar.specs.Cond.{WaitsPass, both_waits, went_in, went_out, waits_after, AreWaitsIn, CountIsInside, waiters_model}
pub use Rattle.running_condvar.specs.CondShown.{SleepsBy, HasSlept, waits_in, permits_in, HasPlayedCount, HasNotified, HasGiven, TakesOne, TakesNone, HasLeft, HasRegained}
pub use Rattle.running_mutex.specs.MutexShown.{MutexPass, IsLocked, HasEntered, HasUnlocked, pass_of}
pub use Rattle.running_condvar.specs.declared.CondPass.{CondPass}
pub use Rattle.running_model.proofs.Over.{is_over}
pub use Rattle.running_model.proofs.Steps.{told_so, found_there}
pub use Rattle.running_model.proofs.Words.{hold_at}
pub use Rattle.running_model.specs.Counts.{HasSeen, HasDone}
pub use Rattle.running_model.specs.Turns.{IsOver}
pub use Rattle.running_semaphore.specs.SemaphoreShown.{SemPass, AskedForPermit, HasTaken, HasPlayedPost, initial_of}
pub use Rattle.std.proofs.Common.{rules, ◌≡◌, ℕ, ◌<◌, Bool, true, false, MatchBool, ◌⊎◌, subst, arith, ◌≢◌, ◌+◌, ◌-◌, ◌%◌, ◌^◌, [], ◌∷◌, sym, refl, ap, ◌∙◌, List, None, suc}
pub use Rattle.std.proofs.lemmas.Bool.{eqb-true, eqb-false, ne_eqb, true≢false, MatchBool-at_true, MatchBool-at_false}
pub use Rattle.std.proofs.lemmas.Bool.Decides.{nat_tests}
