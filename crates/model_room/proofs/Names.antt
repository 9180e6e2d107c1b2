-- The lemmas of others that this crate cites.
pub use Rattle.std.proofs.Common.{◌≡◌, ◌≢◌, ℕ, ◌<◌, ◌≤◌, ◌==◌, refl, sym, ◌∙◌, ap, subst, zero, suc, List, [], ◌∷◌, length, get_or, slice_get, slice_set, Option, Some, None, is_some, Bool, true, false, cond, Result, Ok, Err, IfOk, IfErr, ◌⊎◌, inl, inr, ◌+◌, ◌++◌, take, vec_len, arith, if◌then◌else◌, replicate, nat_lt, not}
pub use Rattle.std.proofs.Math.ListN.{length-set}
pub use Rattle.std.proofs.lemmas.Bool.{lt-ltb, eqb-true, eqb-false}
pub use Rattle.std.proofs.lemmas.Bool.Decides.{eqb_tells, nat_tests}
pub use Rattle.std.proofs.lemmas.List.{take_all, length-replicate}
pub use Rattle.std.proofs.lemmas.Option.{slice_get-get_or, slice_get_within}
pub use Rattle.model_events.proofs.Exports.{eqb_same, eqb_other, plays_next, refuses_next}
pub use Rattle.model_events.specs.Exports.{call_after, event, after, AtEveryPrefix}
pub use Rattle.model_room.specs.Names.{ForSome, Arithmetic, call_of, Event, Input, Object, StepFault, Then, IsObject, Headline, RoomEvent, RoomInput, RoomFault}
pub use Rattle.model_room.specs.Runs.{events_of, is_answer, seat_left, seat_after, seat_of, sits_at, sits_elsewhere, begins_elsewhere, at_step, fault_there, fault_of, IsNext, IsRun, IsPlayed, AreObjects, IsPast, EachRuns, EachKeeps, SitsWhereItCalls, CallsAtOne, all_of, call_at, CallsAsOne}
pub use Rattle.model_room.specs.Room.{Seating, StandsAt, Plays, Steps, RefusesStep, KeepsHeadlines, TellsSeat}
