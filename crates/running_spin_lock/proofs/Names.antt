-- What the proofs of this crate read: lemmas of others, and definitions.
pub use Rattle.running_passes.proofs.Parts.{shared_first, parts_again, joins_weight, splits_weight}
pub use Rattle.running_passes.proofs.Steps.{joins, splits}
pub use Rattle.running_model.proofs.Over.{is_over, either_is_over}
pub use Rattle.std.proofs.Common.{refl, sym, subst, ◌∙◌, rules}
pub use Rattle.std.proofs.lemmas.Bool.{MatchBool-at_true, MatchBool-at_false}
pub use Rattle.running_spin_lock.specs.Names.{table_id_coded, Word, Call, Answer, HoldKind, Intent, SpinPlace, Slot, Parties, all_of, Coming, Going, Beginning, Continuing, ComesBy, IsHolding, Led, HasCalled, MayStep, Went, get_elem?, State, opening, rest, Final, Seen, Sights, View, IsWhole, first_view, sum_of, IsCounted, Event, IsPast, Model, Played, played_add_up, IsOfARun, Holds, no_holds, both_holds, AreHoldsIn, PlaysAndCarries, Told, counted_in, sights_after, holds_after, IsAgain, joined_view, ◌≡◌, ◌<◌, true, ◌≢◌, ℕ, Bool, false, ap, List, [], ◌∷◌, Option, Some, None, arith, MatchBool, ◌+◌, dite, ℕ_discrete, IsForOne, eqb-true, eqb-false, nat_tests}
pub use Rattle.std.proofs.Math.Bool.{Bool-set}
pub use Rattle.std.proofs.Math.Nat.{ℕ_set}
pub use Rattle.std.proofs.Math.Bridge.{le_prop}
pub use base.Stored.{Coded-set}
pub use Rattle.running_spin_lock.specs.declared.guard.SpinLockGuard.{SpinLockGuard}
pub use Rattle.running_spin_lock.specs.ValueSteps.{has_vacant_slot, OnlySees, Locks, Lets, Sees, HasValue, Enters}
pub use Rattle.running_spin_lock.specs.SpinParties.{HasLock, IsWaiting, IsSpinning, IsGranted, Unlocks}
pub use Rattle.running_spin_lock.specs.SpinShown.{guard_with}
pub use Rattle.running_spin_lock.specs.Spin.{spin_model, spin_is_for_one, SpinView}
pub use Rattle.running_model.specs.Turns.{IsOver}
pub use Rattle.running_model.proofs.Holding.{holding_told, holding_is}
pub use Rattle.running_spin_lock.specs.SpinSteps.{HasPlayed, HasPlayedUnlock}
pub use Rattle.std.specs.Option.{IsSome}
pub use Rattle.running_passes.specs.Tallies.{IsTally}
pub use Rattle.running_passes.proofs.Sums.{others, sum_at, sum_of_two, alone}
pub use Rattle.running_model.proofs.OfARun.{of_a_run}
pub use Rattle.running_model.proofs.Steps.{zero_or_not}
pub use Rattle.running_model.proofs.Words.{hold_at}
pub use Rattle.running_for_one.specs.ForOne.{holds_add_up, no_holds_first, word_is_held}
pub use Rattle.running_spin_lock.specs.ValueRule.{none_held, both_held, core_held, LiesByHolds, CarriesByHolds, ValueAgrees, OneHolder}
