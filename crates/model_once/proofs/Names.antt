-- The lemmas of others that this crate cites.
pub use Rattle.std.proofs.Common.{◌≡◌, ℕ, ◌==◌, refl, Bool, true, false, cond, List, ◌∷◌, Some, None, ◌⊎◌, inl, inr, ◌≢◌, zero, ◌+◌, ◌≤◌, subst, [], Option, arith, ◌<◌}
pub use Rattle.std.proofs.lemmas.Bool.{eqb-true, eqb-false}
pub use Rattle.model_events.proofs.Exports.{some_same, no_holds, exclusive_unheld, IsCallAfter, call_was, own_among, IsToldOf, own_at_last, at_last_maps, by_move, tells_memory, IsKept, at_place, both_kept, steps_as, Descends, ends_within}
pub use Rattle.std.proofs.lemmas.Bool.Decides.{nat_tests}
pub use Rattle.model_once.specs.Names.{IfSome, MatchBool, MatchOption, Word, Call, Act, Answer, Event, Then, After, Arithmetic, carried_out, value_told, outcome_of, place_after, same_word, PendingCall, call_of, hold_of, word_in, word_after, event, Move, step_at, is_step, IsPast, AtLast, last_of, StepsAs, Lacks, is_refusal, Intent, Table, stage_of, IsTold, is_exchange}
pub use Rattle.model_once.specs.declared.OncePlace.{OncePlace}
pub use Rattle.model_once.specs.Closures.{is_begin, is_end, is_load, begins_in, ends_in, TellsState, has_tried}
