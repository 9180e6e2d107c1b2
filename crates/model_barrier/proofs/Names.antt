-- The lemmas of others that this crate cites.
pub use Rattle.std.proofs.Common.{◌≡◌, ◌≢◌, ℕ, ◌+◌, ◌/◌, ◌%◌, ◌≤◌, ◌<◌, ◌^◌, ◌==◌, refl, sym, ◌∙◌, ap, subst, Bool, true, false, cond, List, [], ◌∷◌, Option, Some, None, ◌⊎◌, inl, inr, ◌↔◌, arith, ◌*◌, add-mul}
pub use Rattle.std.proofs.lemmas.Bool.{eqb-true, eqb-false, eq-eqb}
pub use Rattle.std.proofs.lemmas.Bool.Decides.{nat_tests}
pub use Rattle.model_events.proofs.Exports.{eqb_other, no_holds, exclusive_unheld, by_move, tells_memory, spins_spent, IsKept, at_place, IsAskedAs, waits_first, waits_as, spins_no_more, both_kept, steps_as, IsToldOf, own_at_last, at_last_maps}
pub use Rattle.model_barrier.specs.Rounds.{epoch_of, count_of, opened, with_arrival, CountsArrivals, is_arrival, arrivals_in, round_of, full_rounds, IsFull}
