-- The lemmas of others that this crate cites.
pub use Rattle.std.proofs.Common.{◌≡◌, true, Option, Some, None, arith, ◌∙◌, ℕ, false, refl, sym, subst, List, [], ◌∷◌, zero, ◌+◌, ◌<◌, ap, ◌++◌, length, take, get_or, slice_get, ◌-◌, ◌^◌, min, Bool, cond, ◌≢◌, suc, ◌≤◌, Result, Ok, Err, IfOk, IfErr, ◌⊎◌, inl, inr, slice_set, ◌*◌, ◌&&◌, is_some, is_none, vec_len, if◌then◌else◌}
pub use Rattle.std.proofs.Math.ListN.{length-set}
pub use Rattle.std.proofs.lemmas.Bool.{lt-ltb, eqb-true, eqb-false}
pub use Rattle.std.proofs.lemmas.Bool.Decides.{eqb_tells, nat_tests}
pub use Rattle.std.proofs.lemmas.List.{take_more, length-replicate, set-get_or, take_all}
pub use Rattle.std.proofs.lemmas.Option.{slice_get-get_or}
pub use Rattle.model_events.proofs.Exports.{plays_next, refuses_next, call_of_same, call_of_other, hold_of_same, hold_of_other, lacked_word, carried_is_step}
pub use Rattle.sync_steps.specs.Names.{Event, Input, Object, Word, Arithmetic, same_word, replicate, Act, Then, Intent, word_after, is_failure, failures_by, event, carried_out, value_told, word_at, WaitAction, Call, StepFault, HoldKind, within, PendingCall, call_after, hold_after, latest_outcome, stage_of, move_of, fault_at, go_fault, answer_fault, choose_fault, is_locking, HasForm, after, ForSome, call_of, hold_of, failures_in, InputValues, Table, hold_taken, begin_fault, After, outcome_of}
pub use Rattle.sync_steps.specs.Objects.{has_word, place_of, table_of, IsObject, has_call, wants_hold}
pub use Rattle.sync_steps.specs.Runs.{word_in, IsNext, IsPast, fault_of}
pub use Rattle.sync_steps.specs.declared.steps.place.Doing.{Doing}
pub use Rattle.sync_steps.specs.declared.steps.place.Party.{Party}
pub use Rattle.sync_steps.specs.declared.steps.place.Place.{Place}
pub use Rattle.sync_steps.specs.Machine.{Configuration, Steps, Plays, StandsAt, RefusesStep, KeepsHeadline}
pub use Rattle.sync_steps.specs.Machine.Applies.{HasTurned, Applies, HasWritten, HasRefused}
pub use Rattle.sync_steps.specs.Machine.Places.{intent_at, place_in, closure_of, DoesCall, IsParty, map_place, begins_at, needs_hold_at, opening_at, watched_word, SawLast, TellsWatched, Rows, rows_in, at_rows, at_object, after_at, answered_at, chosen_at}
pub use Rattle.sync_steps.specs.Machine.Turns.{turn_at, Turn, turn_after, begun, begin_at, begin_turn, go_at, is_at_wait, is_at_choice, answer_at, choose_at, TurnsTo, hold_won, new_hold, moved_on, go_turn}
pub use Rattle.sync_steps.specs.Machine.Strides.{Strides, is_quiet, spun_party, HasSpun}
