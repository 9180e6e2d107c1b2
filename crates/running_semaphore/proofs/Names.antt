-- What the proofs of this crate read of others, and of its own definitions.
pub use Rattle.running_semaphore.specs.Names.{Word, Intent, sights_after, Beginning, MayStep, Went, parties_of, counted, Told, HasDone, permits_after, semaphore_model, counts_of, Call, Answer, IsWhole, all_of, spun, Going, view, part_of, HasOnlySeen, carried_out, value_told, SemaphorePlace, semaphore_table, View, missed, wrote, sum_of, Parties, Coming, IsShare, played, none_played, both_played, PlaysAndCounts, SemaphoreScript, Permits, no_permits, both_permits, value_of, ArePermitsOf, Then, semaphore_intent, WaitResult, IsSuccess, IsInterrupted, Slot, ComesBy, IsAt, HasCalled, MayTry, IsToWake, IfInterrupted, HasMissed}
pub use Rattle.running_semaphore.specs.SemaphoreParties.{Waiting, MayWant, HasLooked as HasLookedThere, Trying, Wanting, call_of, look_of, take_of, FoundNone, HasOne}
pub use Rattle.running_semaphore.specs.SemaphoreShown.{initial_of, HasPlayedPost, HasPlayed, worth_of, SawLast, TookOne, AskedForPermit, answer_of, Posts, SemPass}
pub use Rattle.running_semaphore.specs.SemaphoreSteps.{gave, PlayedSemaphore, PermitsAreOfARun, took}
pub use Rattle.model_events.proofs.Holds.{eqb_same}
pub use Rattle.running_model.proofs.Attempts.{seen_twice, missed_once, moved_later}
pub use Rattle.running_model.proofs.Over.{is_over, either_is_over}
pub use Rattle.std.proofs.Common.{[], ◌∷◌, sym, subst, arith, MatchBool, ap, ◌∙◌, ◌≡◌, ◌≤◌, ◌<◌, ◌≢◌, ℕ, ◌+◌, ◌-◌, ◌%◌, ◌^◌, List, refl, Some, Bool, false, None, Option}
pub use Rattle.std.proofs.lemmas.Bool.{MatchBool-at_true, MatchBool-at_false, eqb-true, eqb-false, ne_eqb}
pub use Rattle.std.proofs.lemmas.Bool.Decides.{nat_tests}
