-- What this crate reads of others.
pub use Rattle.std.specs.Option.{ForSome}
pub use Rattle.std.specs.Prelude.{replicate, MatchOption}
pub use Rattle.model_events.specs.Exports.{Arithmetic, IsValue, IsClosed, stage_of, is_locking, Move, begin_fault, InputValues, fault_at, move_of, go_fault, answer_fault, choose_fault, HasForm, seen_by, call_of, hold_of, failures_in, word_after, failures_by, event, PendingCall, latest_outcome, is_release, hold_or, Hold, same_word, hold_taken, hold_after, call_after, is_failure, word_in, within, carried_out, value_told, outcome_of, after, ContinuesBy, ContinuesUpTo, is_sight, last_of, sight_of, Table, word_at}
pub use Rattle.model_events.specs.declared.{WaitAction.WaitAction, event.Act.Act, event.Call.Call, event.Event.Event, event.Input.Input, event.Object.Object, event.StepFault.StepFault, event.Then.Then, event.Wake.Wake, event.Word.Word, hold.HoldKind.HoldKind, patience.Patience.Patience, row.After.After, row.Intent.Intent}
