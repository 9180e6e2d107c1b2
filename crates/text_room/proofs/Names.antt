-- The lemmas of others that this crate cites.
pub use Rattle.std.proofs.Common.{◌≡◌, ℕ, zero, suc, ◌+◌, ◌*◌, ◌-◌, ◌^◌, ◌<◌, ◌≤◌, Bool, true, false, cond, List, [], ◌∷◌, ◌++◌, length, map, take, drop, slice_get, get_or, Option, Some, None, is_some, Result, Ok, Err, IfSome, IfOk, OnOk, ◌⊎◌, inl, inr, refl, sym, ap, subst, ◌∙◌, append_assoc, arith, rules, tests, vec_len, Vec, drop-cons, codes}
pub use Rattle.std.specs.Prelude.{nat_lt, replicate, string_bytes}
pub use Rattle.std.proofs.lemmas.Bool.{eqb-true, eqb-false}
pub use Rattle.std.proofs.lemmas.Bool.Decides.{nat_tests}
pub use Rattle.std.proofs.lemmas.List.{append-nil}
pub use Rattle.std.proofs.lemmas.Option.{slice_get-get_or}
pub use Rattle.std.specs.Borrow.{Bor}
pub use Rattle.std.proofs.lemmas.List.Concat.{flat_map-append}
pub use Rattle.std.proofs.lemmas.Result.{err_from_is_err_and}
pub use Rattle.model_events.specs.Exports.{Table, PendingCall, fault_at, call_of}
pub use Rattle.model_events.specs.declared.{event.StepFault.StepFault, event.Act.Act, hold.HoldKind.HoldKind}
pub use Rattle.model_events.proofs.Exports.{fault_at_none}
pub use Rattle.sync_steps.specs.Objects.{table_of}
pub use Rattle.sync_steps.specs.Machine.Strides.{IsQuiet, is_quiet}
pub use Rattle.model_room.specs.Room.{Steps, RefusesStep, Strides, steps_of, TellsSeat}
pub use Rattle.model_room.specs.Runs.{IsNext, IsRun, IsPast, sits_at, begins_elsewhere, at_step, fault_there}
pub use Rattle.model_room.proofs.Runs.{next_past, sits}
pub use Rattle.sync_play.specs.Print.{event_lines, act_line}
pub use Rattle.text_room.specs.Names.{Arithmetic, Move, goes_on, after, Input, Object, ◌>>=◌, at_line, IsFaultOf, lines_of, words_of, Numerals, is_several, parties_of, let_of, bytes_eq, values_in, Task, FaultyLine, LineFault, TextFault, RoomCommand, RoomEvent, RoomStride, RoomFault, Seating, StandsAt, events_of, seat_of, fault_of, all_of, steps_left, printed, last_line, output_unless}
