-- What the proofs of this crate read of others, and of its own definitions.
pub use Rattle.running_rw_hold.specs.RwReading.{HasLooked}
pub use Rattle.model_events.specs.declared.event.Call.{Call}
pub use Rattle.model_events.specs.declared.hold.HoldKind.{HoldKind}
pub use Rattle.running_model.proofs.Attempts.{still_so, asked_after}
pub use Rattle.running_model.proofs.Holding.{holding_is}
pub use Rattle.running_model.specs.Counts.{HasOnlySeen}
pub use Rattle.running_model.specs.Holding.{is_holding}
pub use Rattle.running_model.specs.Passes.{counts_of, parties_of}
pub use Rattle.running_model.specs.Plays.{Beginning, ComesBy, MayBegin, HasCalled}
pub use Rattle.running_model.specs.Slots.{Parties, all_of, Slot}
pub use Rattle.running_model.specs.Tries.{spun}
pub use Rattle.running_passes.specs.Passes.{part_of, sights_of}
pub use Rattle.std.proofs.Common.{◌≡◌, arith, ℕ, ◌==◌, true, MatchBool, None, refl, sym, ap, subst, ◌∙◌, inr, List, Some, inl}
pub use Rattle.std.proofs.lemmas.Bool.{eqb-true, eqb-false, MatchBool-at_true}
pub use Rattle.std.proofs.lemmas.Bool.Decides.{nat_tests}
