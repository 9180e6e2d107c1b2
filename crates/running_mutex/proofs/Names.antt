-- What the proofs of this crate read of others, and of its own definitions.
pub use Rattle.running_mutex.specs.Names.{Call, Answer, Bor, WaitAction, IsWhole, part_of, Word, Intent, Coming, MayStep, Parties, View, view, parties_of, IsShare, Told, sights_after, Beginning, ComesBy, Went, Slot, all_of, mutex_model, HoldKind, spun, MutexPlace, IsRefused, mutex_table, IsSamePass, counted, sum_of, no_holds, both_holds, holds_after, AreHoldsIn, none_played, both_played, core_played, played_add_up, mutex_intent, Continuing, IsHolding, Led, HasCalled, IsGranted, MayTry, IsToWake, sights_of, HasMoved, WasRefused, Holds}
pub use Rattle.running_mutex.specs.MutexParties.{HasMutex, Unlocks}
pub use Rattle.running_mutex.specs.MutexShown.{MutexPass, IsLocked, HasEntered, HasUnlocked, HasPlayed, HasLocked, HasSeenLocked, IsAlone, HasPlayedUnlock, HasAskedToLock, IsItsWord, holds_of as holds_of_pass, Enters}
pub use Rattle.running_model.proofs.Over.{is_over, either_is_over}
pub use Rattle.running_model.proofs.Steps.{told_so, zero_or_not}
pub use Rattle.running_model.proofs.Words.{hold_at}
pub use Rattle.running_model.specs.Turns.{IsOverAside}
pub use Rattle.running_for_one.proofs.OneHold.{tried_alone, IsTry, tried}
pub use Rattle.running_for_one.specs.ForOne.{holds_add_up, word_is_held}
pub use Rattle.running_mutex.specs.Mutex.{mutex_is_for_one}
pub use Rattle.std.proofs.Common.{◌≡◌, ℕ, Bool, true, false, MatchBool, subst, arith, ◌≢◌, ◌+◌, [], ◌∷◌, sym, refl, ap, ◌∙◌, List, None, Some, ◌==◌}
pub use Rattle.std.proofs.lemmas.Bool.{eqb-true, eqb-false, ne_eqb, MatchBool-at_true, MatchBool-at_false, true≢false}
pub use Rattle.std.proofs.lemmas.Bool.Decides.{nat_tests}
